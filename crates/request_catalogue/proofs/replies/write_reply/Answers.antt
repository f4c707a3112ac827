use Rattle.request_catalogue.specs.Replies.{answer_of}
use Rattle.request_catalogue.proofs.ReplyTable.{is_read_back}
use Rattle.request_catalogue.proofs.replies.write_reply.Goals as goal

pub returns-clause-read_back : goal.returns-clause-read_back
returns-clause-read_back c = is_read_back c.args.width (answer_of c.args.answer.now) c.requires.sendable c.put_reply.result c.put_reply.new.out c.args.out.now c.put_reply.ensures.len c.put_reply.ensures.written
