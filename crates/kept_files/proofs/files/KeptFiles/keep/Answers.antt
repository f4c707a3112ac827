use Rattle.std.proofs.Common.{◌≡◌, false, ◌∷◌, [], option_map, subst, arith}
use Rattle.outside.specs.FilesNow.{files_now}
use Rattle.kept_files.specs.Kept.{PutsFile, is_kept}
use Rattle.kept_files.specs.Files.{kept_now, kept_of}
use Rattle.kept_files.proofs.KeptLemmas.{more_file, more_same}
use Rattle.kept_files.proofs.Putting.{puts_front}
use Rattle.kept_files.proofs.files.KeptFiles.keep.Goals as goal

pub returns-in_err-put-clause-more : goal.returns-in_err-put-clause-more
returns-in_err-put-clause-more g c =
    let now = files_now g.F.Files.contents g.F.Files.read_faults g.F.Files.replace_faults g.F.Files.touched in
    more_same (c.args.name.now ∷ []) (kept_now now c.args.self.now) (record { kept = c.put.new.self; under = now c.read_front.new.files }) c.in_err-put.ensures.err c.read_front.ensures.files

pub returns-in_ok-put-clause-file : goal.returns-in_ok-put-clause-file
returns-in_ok-put-clause-file g c =
    let before = kept_of c.args.self.now in
    let new : is_kept c.args.name.now before ≡ false = grind arith in
    let same : c.in_ok-word.word ≡ c.args.name.now = grind arith in
    let puts = subst (λ name. PutsFile name (option_map (λ bytes. bytes.items) c.in_ok-found.found) before c.put.new.self) same c.in_ok-put.ensures.ok in
    puts_front (λ bytes. bytes.items) c.in_ok-found.found (g.F.Files.contents c.read_front.new.files) c.args.name.now before c.put.new.self new puts c.in_ok-found.ensures.front

pub returns-in_ok-put-clause-more : goal.returns-in_ok-put-clause-more
returns-in_ok-put-clause-more g c =
    let now = files_now g.F.Files.contents g.F.Files.read_faults g.F.Files.replace_faults g.F.Files.touched in
    more_file c.args.name.now (kept_now now c.args.self.now) (record { kept = c.put.new.self; under = now c.read_front.new.files }) (returns-in_ok-put-clause-file g c) c.read_front.ensures.files
