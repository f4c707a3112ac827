use Rattle.std.proofs.Common.{Some, ap, ◌∙◌}
use Rattle.outside_memory.specs.KeptFile.{files_of}
use Rattle.outside_memory.proofs.FilesLemmas.{files-same}
use Rattle.outside_memory.proofs.files.MemFiles.new.Goals as goal

pub returns-clause-contents : goal.returns-clause-contents
returns-clause-contents c =
    ap (λ files. Some (files_of files 0)) c.in_ok-new.ensures.files ∙ ap Some (files-same c.args.pairs.now)
