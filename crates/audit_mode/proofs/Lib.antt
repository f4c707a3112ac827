mod AuditLemmas
mod TextLemmas
