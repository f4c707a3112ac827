-- The scripts of a worker's sessions, one more each.
use Rattle.std.proofs.Common.{◌≡◌, ℕ, ◌+◌, ◌-◌, ◌*◌, ◌<◌, ◌≤◌, Bool, true, false, cond, List, [], ◌∷◌, ◌++◌, map, refl, sym, ap, ◌∙◌, arith}
use Rattle.std.specs.List.{range_with_len}
use Rattle.std.proofs.lemmas.List.{map-append}
use Rattle.std.proofs.lemmas.List.FromFn.{map-range_with_len_more, sum_by-map-range_with_len_more}
use Rattle.outside_memory.specs.declared.script.Script.{Script}
use Rattle.outside_memory.specs.Script.{plan_of}
use Rattle.request_catalogue.specs.declared.texts.Name.{Name}
use Rattle.request_catalogue.specs.TextBytes.{name_bytes}
use Rattle.drill_plan.specs.declared.class.Class.{Class}
use Rattle.drill_plan.specs.Classes.{class_of, is_login, logins_before}
use Rattle.drill_plan.specs.Passwords.{current_password, own_name, own_password, right_password, session_count}
use Rattle.drill_plan.specs.Plan.{early_bytes_by, requests_bytes, session_bytes}
use Rattle.drill_plan.specs.Requests.{user_requests_by}

-- one session more
pub logins-more : (n worker session count : ℕ) (class : Class) → class ≡ class_of n worker session → count ≡ cond (is_login class) 1 0 → logins_before n worker session + count ≡ logins_before n worker (session + 1)
logins-more n worker session count class class_is count_is =
    ap (λ (k : ℕ). logins_before n worker session + k) (count_is ∙ ap (λ (c : Class). cond (is_login c) 1 0) class_is)
    ∙ sym (sum_by-map-range_with_len_more (λ c. cond (is_login c) 1 0) (class_of n worker) 0 session session (omega arith))

pub login-count-le : (class : Class) (count : ℕ) → count ≡ cond (is_login class) 1 0 → count ≤ 1
login-count-le class count count_is = small (is_login class) count_is where
  small : (b : Bool) → count ≡ cond b 1 0 → count ≤ 1
  small true e = omega (arith, e)
  small false e = omega (arith, e)

same_early : (u v : List ℕ) (c d r s : ℕ) (x y : Class) → u ≡ v → c ≡ d → r ≡ s → x ≡ y → early_bytes_by u c r x ≡ early_bytes_by v d s y
same_early u v c d r s x y user current right class = rw (user, current, right, class) refl

two_parts : {a b c d : List ℕ} → a ≡ c → b ≡ d → ◌≡◌ {A = List ℕ × List ℕ} (a, b) (c, d)
two_parts {a = a} {d = d} p q = ap (λ (x : List ℕ). let pair : List ℕ × List ℕ = (a, x) in pair) q ∙ ap (λ (x : List ℕ). let pair : List ℕ × List ℕ = (x, d) in pair) p

-- what stands in a script of a session
pub script-bytes : (n worker session logins current right : ℕ) (name : Name) (class : Class) (script : Script) → class ≡ class_of n worker session → logins ≡ logins_before n worker session → name_bytes name ≡ own_name worker
    → current ≡ own_password n worker (session_count n - logins) → right ≡ own_password n worker (session_count n - logins - 1)
    → script.pre ≡ early_bytes_by (name_bytes name) current right class → script.user ≡ requests_bytes (user_requests_by class) → ◌≡◌ {A = List ℕ × List ℕ} (script.pre, script.user) (session_bytes n worker session)
script-bytes n worker session logins current right name class script class_is logins_is name_is current_is right_is pre user =
    let early : script.pre ≡ (session_bytes n worker session).0 =
    pre ∙ same_early (name_bytes name) (own_name worker) current (current_password n worker session) right (right_password n worker session) class (class_of n worker session) name_is
    (current_is ∙ ap (λ (m : ℕ). own_password n worker (session_count n - m)) logins_is) (right_is ∙ ap (λ (m : ℕ). own_password n worker (session_count n - m - 1)) logins_is) class_is in
    let late : script.user ≡ (session_bytes n worker session).1 = user ∙ ap (λ (c : Class). requests_bytes (user_requests_by c)) class_is in
    two_parts early late

-- the plan with one script more
pub plan-more : (n worker session : ℕ) (scripts after : List Script) (script : Script) → after ≡ scripts ++ script ∷ [] → plan_of scripts ≡ map (session_bytes n worker) (range_with_len 0 session) → ◌≡◌ {A = List ℕ × List ℕ} (script.pre, script.user) (session_bytes n worker session)
    → plan_of after ≡ map (session_bytes n worker) (range_with_len 0 (session + 1))
plan-more n worker session scripts after script after_is plan_is entry_is =
    ap plan_of after_is ∙ map-append (λ (s : Script). (s.pre, s.user)) scripts (script ∷ [])
    ∙ ap (λ (front : List (List ℕ × List ℕ)). front ++ (script.pre, script.user) ∷ []) plan_is
    ∙ ap (λ (entry : List ℕ × List ℕ). map (session_bytes n worker) (range_with_len 0 session) ++ entry ∷ []) entry_is
    ∙ sym (map-range_with_len_more (session_bytes n worker) 0 session session (omega arith))
