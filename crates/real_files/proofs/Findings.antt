use Rattle.std.proofs.Common.{◌≡◌, ◌≢◌, ℕ, List, Option, None, String, BTreeMap, string_bytes, string_cmp, nat_cmp, subst, sym, ap, ◌∙◌}
use Rattle.std.specs.Prelude.{IsSome}
use Rattle.std.specs.Cmp.Lexicographic.{slice_cmp}
use Rattle.std.specs.Str.{bytes_eq}
use Rattle.std.specs.BTreeMap.{UpdatesBy, get_by_text}
use Rattle.std.proofs.lemmas.Bool.{false_from_ne_true, false≢true}
use Rattle.std.proofs.lemmas.Map.{update_other}
use Rattle.std.proofs.lemmas.Map.Text.{btree_map_updates_text}
use Rattle.std.proofs.lemmas.Slice.Eq.{bytes_eq-Decides}
use Rattle.real_files.specs.declared.seen.SeenFiles.{SeenFiles}
use Rattle.real_files.specs.Findings.{KeepsFindings, SameOthers, found_at}

-- what is written at a path leaves what is found at each other
pub other-stays : {X Y : Type 0} (bs path : List ℕ) (m n : BTreeMap (String Y) X) (w : Option X) → bs ≡ path → UpdatesBy string_cmp (λ k. slice_cmp nat_cmp bs (string_bytes k)) m n w → (other : List ℕ) → other ≢ path → get_by_text n other ≡ get_by_text m other
other-stays bs path m n w same updates other apart =
    let differs = false_from_ne_true (bytes_eq bs other) (λ t. apart (sym ((bytes_eq-Decides bs other).0 t) ∙ same)) in
    btree_map_updates_text bs m n w updates other ∙ update_other bytes_eq (get_by_text m) bs w other differs

-- where nothing was found at a path, what is put there changes nothing that was found
pub none-lost : (path : List ℕ) (before after : SeenFiles) → found_at before path ≡ None → SameOthers path before after → KeepsFindings before after
none-lost path before after none others other there =
    others other (λ e. false≢true (subst IsSome (ap (found_at before) e ∙ none) there))
