use Rattle.std.proofs.Common.{arith}
use Rattle.request_catalogue.specs.TextBytes.{name_bytes}
use Rattle.state_export.proofs.Imports.{is_read_back}
use Rattle.state_export.proofs.import.write_import.Goals as goal

pub returns-clause-read_back : goal.returns-clause-read_back
returns-clause-read_back c = is_read_back c.args.uid (name_bytes c.args.user.now) c.args.state.now (omega (arith, c.ranges.uid.fits)) c.args.user.now.legal c.put_import.result c.put_import.new.out c.args.out.now c.put_import.ensures.len c.put_import.ensures.written
