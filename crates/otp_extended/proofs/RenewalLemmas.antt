-- What a response makes of an account.
use Rattle.std.proofs.Common.{◌≡◌, ℕ, List, Option, Some, None, Err, get_or, sym, ap, ◌∙◌}
use Rattle.std.specs.Prelude.{Result}
use Rattle.std.proofs.lemmas.Option.{get_or_from_slice_get}
use Rattle.request_catalogue.specs.declared.texts.Name.{Name}
use Rattle.policy_model.specs.declared.account.Account.{Account}
use Rattle.policy_model.specs.Logins.{account_of}
use Rattle.policy_model.specs.Settings.{Settings, account_number}
use Rattle.session_laws.proofs.Numbers.{numbered_by_number}
use Rattle.otp_extended.specs.declared.response.Response.{Response}
use Rattle.otp_extended.specs.declared.renewal.Renewed.{Renewed}
use Rattle.trouble.specs.declared.response.RenewFault.{RenewFault}
use Rattle.trouble.specs.declared.response.RenewFault.TheVariants.{Unknown}
use Rattle.otp_extended.specs.Renewals.{faults_of, first_of, judged, new_chain_of, renewal_by, renewal_of}

pub unknown_user : (setup : Settings) (user : Name) (response : Response) → account_number setup user ≡ None → Err Unknown ≡ renewal_of setup user response
unfolding renewal_of
unknown_user setup user response none = sym (ap (λ (n : Option ℕ). renewal_by n (account_of setup user) response) none)

pub known_user : (setup : Settings) (user : Name) (response : Response) (number : ℕ) (accounts : List Account) (account : Account) → account_number setup user ≡ Some number → accounts ≡ setup.accounts → account ≡ get_or accounts number account → renewal_of setup user response ≡ judged (first_of (faults_of account response)) number response
unfolding renewal_of
known_user setup user response number accounts account is same here =
    let n = numbered_by_number setup user number is in
    let stands : get_or setup.accounts number account ≡ n.0 = get_or_from_slice_get setup.accounts number n.0 account n.1.stands in
    let found : n.0 ≡ account = sym (here ∙ ap (λ (l : List Account). get_or l number account) same ∙ stands) in
    ap (λ (o : Option ℕ). renewal_by o (account_of setup user) response) is
    ∙ ap (λ (o : Option Account). renewal_by (Some number) o response) (n.1.found ∙ ap Some found)

pub first_fault : (setup : Settings) (user : Name) (response : Response) (number : ℕ) (accounts : List Account) (account : Account) (fault : RenewFault) → account_number setup user ≡ Some number → accounts ≡ setup.accounts → account ≡ get_or accounts number account → first_of (faults_of account response) ≡ Some fault → Err fault ≡ renewal_of setup user response
first_fault setup user response number accounts account fault is same here first =
    sym (known_user setup user response number accounts account is same here ∙ ap (λ (o : Option RenewFault). judged o number response) first)

pub no_fault : (setup : Settings) (user : Name) (response : Response) (number : ℕ) (accounts : List Account) (account : Account) (result : Result Renewed RenewFault) → account_number setup user ≡ Some number → accounts ≡ setup.accounts → account ≡ get_or accounts number account → first_of (faults_of account response) ≡ None → result ≡ new_chain_of number response → result ≡ renewal_of setup user response
no_fault setup user response number accounts account result is same here first chain =
    chain ∙ sym (known_user setup user response number accounts account is same here ∙ ap (λ (o : Option RenewFault). judged o number response) first)
