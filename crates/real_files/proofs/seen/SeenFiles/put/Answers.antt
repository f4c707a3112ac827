use Rattle.std.proofs.Common.{string_bytes}
use Rattle.real_files.proofs.Findings.{other-stays}
use Rattle.real_files.proofs.seen.SeenFiles.put.Goals as goal

pub returns-clause-others : goal.returns-clause-others
returns-clause-others c =
    other-stays (string_bytes c.in_ok-from_str.field-0) c.args.path.now c.args.self.now.files c.insert.new.self _ c.in_ok-from_str.ensures.ok c.in_ok-insert.ensures.updates
