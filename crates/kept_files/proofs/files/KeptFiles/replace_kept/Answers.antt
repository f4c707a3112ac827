use Rattle.std.proofs.Common.{◌≡◌, Some, arith}
use Rattle.std.specs.List.{position}
use Rattle.std.specs.Str.{bytes_eq}
use Rattle.kept_files.specs.Files.{kept_of}
use Rattle.kept_files.proofs.Replacing.{has_place}
use Rattle.kept_files.proofs.files.KeptFiles.replace_kept.Goals as goal

pub returns-clause-unkept : goal.returns-clause-unkept
returns-clause-unkept g c none =
    let there = (kept_of c.args.self.now).there in
    let at : position (λ p. bytes_eq p.0 c.args.name.now) there ≡ Some c.in-Some.place = grind arith in
    absurd (has_place there c.in-Some.place c.args.name.now at none)
