use Rattle.state_export.specs.Spelling.{value_of}
use Rattle.state_export.proofs.States.{is_read_back}
use Rattle.state_export.proofs.writing.write_state.Goals as goal

pub returns-clause-read_back : goal.returns-clause-read_back
returns-clause-read_back c = is_read_back (value_of c.args.state.now) c.requires.in_range c.put_state.result c.put_state.new.out c.args.out.now c.put_state.ensures.len c.put_state.ensures.written
