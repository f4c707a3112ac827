use Rattle.std.proofs.Common.{◌∷◌, [], refl, List, ℕ, Result, Ok, Err, subst}
use Rattle.std.specs.Prelude.{OnErr, OnOk}
use Rattle.outside.specs.declared.act.Failed.{Failed}
use Rattle.outside.specs.Files.{MayBeReplaced, Replaced}
use Rattle.outside.specs.FilesNow.{files_now}
use Rattle.outside.specs.Told.{Goes}
use Rattle.setup_reading.proofs.Touching.{all_left, all_right, replaces_one, replaces_then, replaces_wider}
use Rattle.recover_mode.specs.Recovering.{AreWritten, MayBeWritten}
use Rattle.recover_mode.proofs.WriteLemmas.{AreWritten-both, MayBeWritten-second}
use Rattle.recover_mode.proofs.run.write.Goals as goal

pub returns-clause-ok : goal.returns-clause-ok
returns-clause-ok g c = go c.replace-2.result c.replace-2.ensures.ok where
  go : (result : Result (Unit {0}) Failed) → OnOk result (Goes (Replaced c.args.texts.now.log c.fresh_image.result.now) (g.F.Files.contents c.replace.new.self) (g.F.Files.contents c.replace-2.new.self)) → OnOk result (Goes (AreWritten c.args.texts.now) (g.F.Files.contents c.args.files.now) (g.F.Files.contents c.replace-2.new.self))
  go (Err _) second = tt
  go (Ok _) second =
      let contents = g.F.Files.contents in
      let texts = c.args.texts.now in
      let a = contents c.args.files.now in
      let b = contents c.replace.new.self in
      let last = contents c.replace-2.new.self in
      AreWritten-both texts a b last (subst (λ (w : List ℕ). Goes (Replaced texts.setup w) a b) c.as_slice.ensures.value c.in_ok-replace.ensures.ok) (subst (λ (w : List ℕ). Goes (Replaced texts.log w) b last) c.fresh_image.ensures second)

pub returns-clause-err : goal.returns-clause-err
returns-clause-err g c = go c.replace-2.result c.replace-2.ensures.err where
  go : (result : Result (Unit {0}) Failed) → OnErr result (Goes (MayBeReplaced c.args.texts.now.log c.fresh_image.result.now) (g.F.Files.contents c.replace.new.self) (g.F.Files.contents c.replace-2.new.self)) → OnErr result (Goes (MayBeWritten c.args.texts.now) (g.F.Files.contents c.args.files.now) (g.F.Files.contents c.replace-2.new.self))
  go (Ok _) second = tt
  go (Err _) second =
      let contents = g.F.Files.contents in
      let texts = c.args.texts.now in
      let a = contents c.args.files.now in
      let b = contents c.replace.new.self in
      let last = contents c.replace-2.new.self in
      MayBeWritten-second texts a b last (subst (λ (w : List ℕ). Goes (Replaced texts.setup w) a b) c.as_slice.ensures.value c.in_ok-replace.ensures.ok) (subst (λ (w : List ℕ). Goes (MayBeReplaced texts.log w) b last) c.fresh_image.ensures second)

pub returns-in_err-replace-clause-files : goal.returns-in_err-replace-clause-files
returns-in_err-replace-clause-files g c =
    let now = files_now g.F.Files.contents g.F.Files.read_faults g.F.Files.replace_faults g.F.Files.touched in
    let texts = c.args.texts.now in
    let first = c.replace.ensures in
    replaces_wider (texts.setup ∷ []) (texts.setup ∷ texts.log ∷ []) (all_left (texts.setup ∷ []) (texts.log ∷ [])) (now c.args.files.now) (now c.replace.new.self)
    (replaces_one c.replace.result texts.setup texts.setup _ refl (now c.args.files.now) (now c.replace.new.self) first.ok first.err first.kept first.others first.touched_ok first.touched_err)

pub returns-clause-files : goal.returns-clause-files
returns-clause-files g c =
    let now = files_now g.F.Files.contents g.F.Files.read_faults g.F.Files.replace_faults g.F.Files.touched in
    let texts = c.args.texts.now in
    let names = texts.setup ∷ texts.log ∷ [] in
    let old = now c.args.files.now in
    let mid = now c.replace.new.self in
    let new = now c.replace-2.new.self in
    let first = c.replace.ensures in
    let second = c.replace-2.ensures in
    replaces_then names old mid new
    (replaces_wider (texts.setup ∷ []) names (all_left (texts.setup ∷ []) (texts.log ∷ [])) old mid (replaces_one c.replace.result texts.setup texts.setup _ refl old mid first.ok first.err first.kept first.others first.touched_ok first.touched_err))
    (replaces_wider (texts.log ∷ []) names (all_right (texts.log ∷ []) (texts.setup ∷ [])) mid new (replaces_one c.replace-2.result texts.log texts.log _ refl mid new second.ok second.err second.kept second.others second.touched_ok second.touched_err))
