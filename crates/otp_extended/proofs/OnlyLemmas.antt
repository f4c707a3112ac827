-- A text reads in one way.
use Rattle.std.proofs.Common.{◌≡◌, ℕ, List, ◌∷◌, Option, Some, Ok, Err, refl, sym, ap, subst, ◌∙◌}
use Rattle.std.specs.Prelude.{Result}
use Rattle.otp_hash.specs.declared.chain.Algo.{Algo}
use Rattle.otp_hash.specs.declared.seed.Seed.{Seed}
use Rattle.otp_hash.specs.SeedBytes.{seed_bytes}
use Rattle.otp_hash.proofs.SeedLemmas.{same_from_seed_bytes}
use Rattle.otp_extended.specs.declared.params.Params.{Params}
use Rattle.otp_extended.specs.declared.response.Form.{Form}
use Rattle.otp_extended.specs.declared.response.Kind.{Kind}
use Rattle.otp_extended.specs.declared.response.Response.{Response}
use Rattle.otp_extended.specs.declared.response.Response.TheVariants.{Plain, Init}
use Rattle.trouble.specs.declared.response.ResponseFault.{ResponseFault}
use Rattle.trouble.specs.declared.response.ResponseFault.TheVariants as faults
use Rattle.otp_extended.specs.Inner.{HasParams}
use Rattle.otp_extended.specs.Parts.{parts_of}
use Rattle.otp_extended.specs.Responses.{AreParams, IsInitOf, IsNoParams, IsPlain, IsReading, IsReadingBy, Spells, kind_of}
use Rattle.otp_extended.proofs.PartLemmas.{has_part}

pub same_some : (p q : ℕ) → ◌≡◌ {A = Option ℕ} (Some p) (Some q) → p ≡ q
same_some p q e = cc

-- 1. Three parts

pub no_params_only : (d : List (List ℕ)) (form : Form) (current params new : List ℕ) (spent : ℕ) (answer : Result Response ResponseFault) → Spells d form current spent → IsNoParams params → IsInitOf d form current params new answer → Err faults.Params ≡ answer
no_params_only d form current params new spent (Ok (Plain p)) there none is = absurd is
no_params_only d form current params new spent (Ok (Init c a n s p)) there none is = absurd (none a n (seed_bytes s) is.1)
no_params_only d form current params new spent (Err faults.Kind) there none is = absurd is
no_params_only d form current params new spent (Err faults.Parts) there none is = absurd is
no_params_only d form current params new spent (Err faults.Current) there none is = absurd (is spent there)
no_params_only d form current params new spent (Err faults.Params) there none is = refl
no_params_only d form current params new spent (Err faults.New) there none is = absurd (none is.1.0 is.1.1 is.1.2 is.1.3)

same_init : (spent c sequence n password p : ℕ) (algo a : Algo) (seed s : Seed) → spent ≡ c → algo ≡ a → sequence ≡ n → seed ≡ s → password ≡ p → ◌≡◌ {A = Result Response ResponseFault} (Ok (Init spent algo sequence seed password)) (Ok (Init c a n s p))
same_init spent c sequence n password p algo a seed s e1 e2 e3 e4 e5 =
    ap (λ (x : ℕ). Ok (Init x algo sequence seed password)) e1
    ∙ ap (λ (x : Algo). Ok (Init c x sequence seed password)) e2
    ∙ ap (λ (x : ℕ). Ok (Init c a x seed password)) e3
    ∙ ap (λ (x : Seed). Ok (Init c a n x password)) e4
    ∙ ap (λ (x : ℕ). Ok (Init c a n s x)) e5

pub init_only : (d : List (List ℕ)) (form : Form) (current params new : List ℕ) (spent password : ℕ) (read : Params) (answer : Result Response ResponseFault) → IsInitOf d form current params new (Ok (Init spent read.algo read.sequence read.seed password)) → ((p : ℕ) → Spells d form current p → spent ≡ p) → ((a : Algo) (n : ℕ) (s : List ℕ) → AreParams params a n s → HasParams a n s read) → ((p : ℕ) → Spells d form new p → password ≡ p) → IsInitOf d form current params new answer → Ok (Init spent read.algo read.sequence read.seed password) ≡ answer
init_only d form current params new spent password read (Ok (Plain p)) there one some last is = absurd is
init_only d form current params new spent password read (Ok (Init c a n s p)) there one some last is =
    let same = some a n (seed_bytes s) is.1 in
    same_init spent c read.sequence n password p read.algo a read.seed s (one c is.0) same.algo_is same.sequence_is (same_from_seed_bytes read.seed s same.seed_is) (last p is.2)
init_only d form current params new spent password read (Err faults.Kind) there one some last is = absurd is
init_only d form current params new spent password read (Err faults.Parts) there one some last is = absurd is
init_only d form current params new spent password read (Err faults.Current) there one some last is = absurd (is spent there.0)
init_only d form current params new spent password read (Err faults.Params) there one some last is = absurd (is.1 read.algo read.sequence (seed_bytes read.seed) there.1)
init_only d form current params new spent password read (Err faults.New) there one some last is = absurd (is.2 password there.2)

-- 2. The number of parts

pub many_plain_only : (d : List (List ℕ)) (form : Form) (text front rest : List ℕ) (answer : Result Response ResponseFault) → parts_of text ≡ front ∷ parts_of rest → IsPlain d form (parts_of text) answer → Err faults.Parts ≡ answer
many_plain_only d form text front rest answer cut is =
    let more = has_part rest in
    sym (subst (λ (ps : List (List ℕ)). IsPlain d form ps answer) (cut ∙ ap (λ (ps : List (List ℕ)). front ∷ ps) more.2) is)

-- 3. The kind

pub read_by : (d : List (List ℕ)) (text word rest : List ℕ) (kind : Option Kind) (answer : Result Response ResponseFault) → parts_of text ≡ word ∷ parts_of rest → kind_of word ≡ kind → IsReading d (parts_of text) answer → IsReadingBy d kind (parts_of rest) answer
read_by d text word rest kind answer cut named is =
    let more = has_part rest in
    let whole : parts_of text ≡ word ∷ more.0 ∷ more.1 = cut ∙ ap (λ (ps : List (List ℕ)). word ∷ ps) more.2 in
    subst (λ (ps : List (List ℕ)). IsReadingBy d kind ps answer) (sym more.2)
    (subst (λ (k : Option Kind). IsReadingBy d k (more.0 ∷ more.1) answer) named
    (subst (λ (ps : List (List ℕ)). IsReading d ps answer) whole is))
