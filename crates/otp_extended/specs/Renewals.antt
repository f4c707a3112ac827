-- Believed: what a response makes of an account, and what follows of a renewal.
use Rattle.std.specs.Prelude.{ℕ, zero, suc, ◌≡◌, ◌≢◌, ◌≤◌, Bool, false, not, ◌==◌, ◌||◌, List, [], ◌∷◌, ◌++◌, take}
use Rattle.std.specs.Prelude.{slice_get, Option, Some, None, Result, Ok, Err, if◌then◌else◌}
use Rattle.std.specs.Str.{bytes_eq}
use Rattle.otp_hash.specs.Hashing.{hash_of}
use Rattle.otp_hash.specs.SeedBytes.{seed_bytes}
use Rattle.request_catalogue.specs.declared.texts.Name.{Name}
use Rattle.policy_model.specs.declared.account.Account.{Account}
use Rattle.policy_model.specs.declared.event.Event.{Event}
use Rattle.policy_model.specs.Legal.{IsLegal}
use Rattle.policy_model.specs.Logins.{account_of, replies_of, reply_for}
use Rattle.policy_model.specs.Settings.{Settings, account_number}
use Rattle.otp_extended.specs.declared.response.Response.{Response}
use Rattle.otp_extended.specs.declared.response.Response.TheVariants.{Plain, Init}
use Rattle.otp_extended.specs.declared.renewal.Renewed.{Renewed}
use Rattle.trouble.specs.declared.response.RenewFault.{RenewFault}
use Rattle.trouble.specs.declared.response.RenewFault.TheVariants.{Unknown, Disabled, Exhausted, NotInit, SameSeed}
use Rattle.trouble.specs.declared.response.RenewFault.TheVariants.{Replayed, NoMatch, Loop}

-- the sequence of a response that begins a new chain is 1 to 9,999
abbrev pub IsSequenced : Response → Type 0
IsSequenced (Plain current) = Unit {0}
IsSequenced (Init current algo sequence seed password) = (1 ≤ sequence) × (sequence ≤ 9999)

-- the password that a response spends
abbrev pub spent_of : Response → ℕ
spent_of (Plain current) = current
spent_of (Init current algo sequence seed password) = current

-- a fault, if it applies
abbrev pub fault_if : Bool → RenewFault → List RenewFault
fault_if applies fault = if applies then fault ∷ [] else []

-- the new password is the current one, the one accepted last, or what the current one hashes to by the new algorithm
abbrev pub is_loop : Account → Response → Bool
is_loop account (Plain current) = false
is_loop account (Init current algo sequence seed password) =
    password == current || (password == account.password || hash_of algo current == password)

-- all faults of a new chain for an account, in their order
abbrev pub chain_faults : Account → Response → List RenewFault
chain_faults account (Plain current) = NotInit ∷ []
chain_faults account (Init current algo sequence seed password) =
    fault_if (bytes_eq (seed_bytes seed) (seed_bytes account.seed)) SameSeed
    ++ (fault_if (current == account.password) Replayed
    ++ (fault_if (not (hash_of account.algo current == account.password)) NoMatch
    ++ fault_if (is_loop account (Init current algo sequence seed password)) Loop))

-- all faults of a response for an account, in their order
abbrev pub faults_of : Account → Response → List RenewFault
faults_of account response =
    fault_if (not account.enabled) Disabled ++ (fault_if (account.sequence == 0) Exhausted ++ chain_faults account
    response)

-- the first of some faults, if there is one
abbrev pub first_of : List RenewFault → Option RenewFault
first_of [] = None
first_of (fault ∷ faults) = Some fault

-- the new chain that a response begins, for the account of this number
abbrev pub new_chain_of : ℕ → Response → Result Renewed RenewFault
new_chain_of number (Plain current) = Err NotInit
new_chain_of number (Init current algo sequence seed password) =
    Ok (record { account = number; algo = algo; seed = seed; sequence = sequence; password = password })

-- the first fault, or the new chain if there is none
abbrev pub judged : Option RenewFault → ℕ → Response → Result Renewed RenewFault
judged (Some fault) number response = Err fault
judged None number response = new_chain_of number response

-- the new chain or the first fault, if the user has an account
abbrev pub renewal_by : Option ℕ → Option Account → Response → Result Renewed RenewFault
renewal_by (Some number) (Some account) response = judged (first_of (faults_of account response)) number response
renewal_by _ _ response = Err Unknown

-- what a response makes of a user's account: the new chain, or the first fault
unfoldable pub renewal_of : Settings → Name → Response → Result Renewed RenewFault
renewal_of setup user response = renewal_by (account_number setup user) (account_of setup user) response

-- an account with a new chain
abbrev pub account_with : Account → Renewed → Account
account_with account new =
    record account { algo = new.algo; seed = new.seed; sequence = new.sequence; password = new.password }

-- accounts of which the one at a place has a new chain
abbrev pub accounts_with : List Account → ℕ → Renewed → List Account
accounts_with [] place new = []
accounts_with (account ∷ accounts) zero new = account_with account new ∷ accounts
accounts_with (account ∷ accounts) (suc place) new = account ∷ accounts_with accounts place new

-- a setup with a new chain, and all else as it was
abbrev pub renewed_setup : Settings → Renewed → Settings
renewed_setup setup new = record setup { accounts = accounts_with setup.accounts new.account new }

-- no permitted REPLY for the user has this password, unless an earlier permitted one for the user stands before it
pub record IsNotNext (journal : List Event) (user : Name) (password : ℕ) : Type 0 where
  pub refused : (k : ℕ) (e : Event) → slice_get journal k ≡ Some e → replies_of (take k journal) user ≡ []
      → reply_for user (record { before = take k journal; event = e }) ≢ Some password

-- the user's account has the new chain, all else is as before, and no legal journal of the new setup first accepts the
-- spent password
pub record IsRenewed (before after : Settings) (user : Name) (spent : ℕ) (new : Renewed) : Type 0 where
  pub account : Account
  pub numbered : account_number before user ≡ Some new.account
  pub stood : slice_get before.accounts new.account ≡ Some account
  pub stands : slice_get after.accounts new.account ≡ Some (account_with account new)
  pub found : account_of after user ≡ Some (account_with account new)
  pub others : (n : ℕ) → n ≢ new.account → slice_get after.accounts n ≡ slice_get before.accounts n
  pub keys : after ≡ record before { accounts = after.accounts }
  pub not_next : (journal : List Event) → IsLegal after journal → IsNotNext journal user spent
