-- Believed: the message that a request of the catalogue is sent as.
use Rattle.request_catalogue.specs.Catalogue.{RequestValue, kind_of, payload_of}
use Rattle.request_catalogue.specs.Kinds.{kind_number}
use Rattle.imsg_frame.specs.Message.{Message, composed_of}

-- the message of a request: the number of its kind, flags, peer and process 0, and its payload
abbrev pub request_message : RequestValue → Message
request_message request = composed_of (kind_number (kind_of request)) 0 0 (payload_of request)
