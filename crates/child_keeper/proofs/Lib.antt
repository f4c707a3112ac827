mod Live
mod Numbers
