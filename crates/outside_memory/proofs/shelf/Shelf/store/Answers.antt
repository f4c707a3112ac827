use Rattle.std.proofs.Common.{◌≡◌, ◌∷◌, ◌++◌, [], None, Some, ap, refl, subst, sym, ◌∙◌}
use Rattle.std.specs.Prelude.{if◌then◌else◌}
use Rattle.std.specs.List.{position}
use Rattle.outside_memory.specs.declared.kept_file.KeptFile.{KeptFile}
use Rattle.outside_memory.specs.KeptFile.{files_of, is_file}
use Rattle.outside_memory.specs.Vaults.{FileSet}
use Rattle.outside_memory.proofs.ShelfLemmas.{FileSet-push, FileSet-set}
use Rattle.outside_memory.proofs.shelf.Shelf.store.Goals as goal

pub returns-in-Some-place-clause-set : goal.returns-in-Some-place-clause-set
returns-in-Some-place-clause-set c = λ ok.
    let files = c.args.self.now.files.items in
    let place : position (is_file c.args.uid c.args.name.now) files ≡ Some c.in-Some-place.place = cc in
    FileSet-set files c.args.uid c.args.name.now c.args.bytes c.in-Some-place.place _ refl c.in-Some.ensures.bytes refl place

pub returns-in-None-clause-set : goal.returns-in-None-clause-set
returns-in-None-clause-set c = λ ok.
    let files = c.args.self.now.files.items in
    let file : KeptFile = record { uid = c.args.uid; name = c.in-Some.name; bytes = c.args.bytes } in
    let place : position (is_file c.args.uid c.args.name.now) files ≡ None = cc in
    let items : c.push.new.self.items ≡ files ++ file ∷ [] = c.push.ensures.items ∙ ap (λ b. if b then files ++ file ∷ [] else files) (sym c.is_ok.ensures.value ∙ ok) in
    subst (λ xs. FileSet c.args.uid c.args.name.now c.args.bytes (files_of files) (files_of xs)) (sym items)
    (FileSet-push files c.args.uid c.args.name.now c.args.bytes file refl c.in-Some.ensures.bytes refl place)

pub returns-in-None-clause-kept : goal.returns-in-None-clause-kept
returns-in-None-clause-kept c = λ no.
    let files = c.args.self.now.files.items in
    let file : KeptFile = record { uid = c.args.uid; name = c.in-Some.name; bytes = c.args.bytes } in
    c.push.ensures.items ∙ ap (λ b. if b then files ++ file ∷ [] else files) (sym c.is_ok.ensures.value ∙ no)
