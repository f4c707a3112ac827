use Rattle.kept_files.proofs.Replacing.{replaced_set}
use Rattle.kept_files.proofs.shelf.set_file.Goals as goal

pub returns : goal.returns
returns c = replaced_set c.args.files.now.items c.args.place c.args.pair c.requires
