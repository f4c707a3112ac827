use Rattle.std.proofs.Common.{◌≡◌, ◌∷◌, [], IfSome, None, Some, option_map, refl, subst, ◌∙◌, arith}
use Rattle.std.specs.Prelude.{IsTrue}
use Rattle.std.proofs.lemmas.Result.{on_ok_weaker}
use Rattle.outside.specs.FilesNow.{files_now}
use Rattle.kept_files.specs.Files.{kept_now}
use Rattle.kept_files.specs.Kept.{KeepsMore, is_kept}
use Rattle.kept_files.specs.Setups.{IsListOf, SpellsList}
use Rattle.kept_files.proofs.KeptLemmas.{all_same, more_both}
use Rattle.kept_files.proofs.ListLemmas.{inside, these_setup}
use Rattle.kept_files.proofs.SetupLemmas.{list_kept}
use Rattle.kept_files.proofs.setup.keep_setup.Goals as goal

pub returns-in-Some-clause-reads : goal.returns-in-Some-clause-reads
returns-in-Some-clause-reads g c =
    let now = kept_now (files_now g.F.Files.contents g.F.Files.read_faults g.F.Files.replace_faults g.F.Files.touched) in
    let before = now c.args.files.now in
    let between = now c.keep.new.self in
    let after = now c.keep-in-Some.new.self in
    let name = c.args.name.now in
    let list = c.in-Some.list in
    let text = option_map (λ text. text.now) c.file.result in
    let same : c.as_str.result.now ≡ list = grind arith in
    let second = subst (λ one. KeepsMore (one ∷ []) between after) same c.keep-in-Some.ensures.more in
    let spells = subst (λ found. IfSome found (SpellsList text)) c.in-Some.is c.in_ok-list.ensures.spelled in
    record {
      list = Some list;
      named = list_kept name list text between.kept after.kept c.in_ok-keep.ensures.kept second.still c.file.ensures spells;
      more = more_both (name ∷ []) (list ∷ []) before between after c.in_ok-keep.ensures.more second;
    }

pub returns-in-Some-clause-kept : goal.returns-in-Some-clause-kept
returns-in-Some-clause-kept g c =
    let text = option_map (λ text. text.now) c.file.result in
    let before = c.keep.new.self.shelf in
    let after = c.keep-in-Some.new.self.shelf in
    let list = c.in-Some.list in
    let same : c.as_str.result.now ≡ list = grind arith in
    let names = subst (IsListOf text) c.in-Some.is c.in_ok-list.ensures in
    on_ok_weaker c.keep-in-Some.result
    (λ there. these_setup c.args.name.now text (Some list) before after c.in_ok-keep.ensures.kept c.file.ensures names c.keep-in-Some.ensures.more.still (λ one is. subst (λ n. IsTrue (is_kept n after)) (same ∙ inside list one is) there))
    c.keep-in-Some.ensures.kept

pub returns-in-None-clause-kept : goal.returns-in-None-clause-kept
returns-in-None-clause-kept g c =
    let kept = c.keep.new.self.shelf in
    let names = subst (IsListOf (option_map (λ text. text.now) c.file.result)) c.in-None.is c.in_ok-list.ensures in
    these_setup c.args.name.now (option_map (λ text. text.now) c.file.result) None kept kept c.in_ok-keep.ensures.kept c.file.ensures names (all_same kept kept refl) (λ list is. absurd cc)
