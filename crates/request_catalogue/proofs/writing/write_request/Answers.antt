use Rattle.request_catalogue.specs.Catalogue.{value_of}
use Rattle.request_catalogue.proofs.Messages.{is_read_back}
use Rattle.request_catalogue.proofs.writing.write_request.Goals as goal

pub returns-clause-read_back : goal.returns-clause-read_back
returns-clause-read_back c = is_read_back c.args.width (value_of c.args.request.now) c.requires.in_range c.put_payload.result c.put_payload.new.out c.args.out.now c.put_payload.ensures.len c.put_payload.ensures.written
