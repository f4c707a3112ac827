use Rattle.std.proofs.Common.{◌≡◌, ℕ, false, List, [], Option, Some, None, Result, Ok, Err, IfSome, refl, ◌∙◌, arith, ◌⊎◌, inl, inr}
use Rattle.outside.specs.Files.{Contents, MayBeReplaced, Replaced, SameFiles}
use Rattle.outside.specs.Link.{Link}
use Rattle.outside.specs.Told.{Goes}
use Rattle.outside.proofs.Exchanges.{Exchanged-none}
use Rattle.outside.proofs.OnlyReading.{same_then}
use Rattle.outside.proofs.Told.{Goes-same, Goes-then}
use Rattle.request_catalogue.specs.declared.texts.Name.{Name}
use Rattle.request_catalogue.specs.TextBytes.{name_bytes}
use Rattle.policy_model.specs.Settings.{Settings}
use Rattle.otp_extended.specs.declared.renewal.Renewed.{Renewed}
use Rattle.otp_extended.specs.declared.run.Renewal.{Renewal}
use Rattle.otp_extended.specs.Commands.{RenewParts}
use Rattle.otp_mode.specs.Outcome.{OnlyReceived}
use Rattle.otp_extended.specs.Outcome as renewals
use Rattle.trouble.specs.declared.trouble.Trouble.{Trouble}
use Rattle.trouble.specs.declared.trouble.Trouble.TheVariants as troubles
use Rattle.renew_mode.specs.declared.basis.Basis.{Basis}
use Rattle.renew_mode.specs.declared.texts.Texts.{Texts}
use Rattle.renew_mode.specs.Bases.{IsReady, IsUnready}
use Rattle.renew_mode.specs.Ends.{may_be_written}
use Rattle.renew_mode.specs.Installing.{IsInstalling}
use Rattle.renew_mode.specs.Outcome.{IsOutcome, IsRead, Spares}
use Rattle.renew_mode.specs.Renewing.{AreTexts, IsMade, IsPut, IsRenewing}
use Rattle.renew_mode.proofs.RenewLemmas.{IsReady-before}

-- ---- files that stayed as they were, and were then written

SameFiles-then : (a b c : Option Contents) → Goes SameFiles a b → Goes SameFiles b c → Goes SameFiles a c
SameFiles-then = Goes-then SameFiles SameFiles SameFiles same_then

same-files : (contents : Option Contents) → Goes SameFiles contents contents
same-files contents = Goes-same SameFiles (λ files. record { same = λ name. refl }) contents

same-replaced : (name bytes : List ℕ) (a b c : Option Contents) → Goes SameFiles a b → Goes (Replaced name bytes) b c → Goes (Replaced name bytes) a c
same-replaced name bytes = Goes-then SameFiles (Replaced name bytes) (Replaced name bytes) (λ a b c first second. record {
  file = second.file;
  others = λ other ne. second.others other ne ∙ first.same other;
})

same-may_be_replaced : (name bytes : List ℕ) (a b c : Option Contents) → Goes SameFiles a b → Goes (MayBeReplaced name bytes) b c → Goes (MayBeReplaced name bytes) a c
same-may_be_replaced name bytes = Goes-then SameFiles (MayBeReplaced name bytes) (MayBeReplaced name bytes) (λ a b c first second. record { either = go a b c first second.either }) where
  go : (a b c : Contents) → SameFiles a b → SameFiles b c ⊎ Replaced name bytes b c → SameFiles a c ⊎ Replaced name bytes a c
  go a b c first (inl same) = inl (record { same = λ name. same.same name ∙ first.same name })
  go a b c first (inr written) = inr (record { file = written.file; others = λ other ne. written.others other ne ∙ first.same other })

-- ---- nothing passed

nothing-received : (link : Option Link) → Goes OnlyReceived link link
nothing-received link = Goes-same OnlyReceived (λ l. record { received = []; few = omega arith; passed = Exchanged-none l }) link

-- of an input that was received
received-of : (setup : Settings) (dictionary : List (List ℕ)) (user : Name) (result : Result Renewal Trouble) (before after : Option Link) → Goes (renewals.Comes setup dictionary user result) before after → Goes OnlyReceived before after
received-of setup dictionary user result before None goes = tt
received-of setup dictionary user result None (Some after) goes = absurd goes
received-of setup dictionary user result (Some before) (Some after) goes = goes.received

-- ---- where all that a renewal rests on was there

-- what failed of the writing and the sending
pub IsInstalling-put : {parts : RenewParts} {renewal : Renewal} (R E : Type 0) (texts : Texts) (a c : Option Contents) (between after : Option Link) (trouble : Trouble) → AreTexts parts renewal texts → IsPut texts a c between after R E (Err trouble) → IsInstalling parts renewal a c between after R E (Err trouble)
IsInstalling-put R E texts a c between after troubles.ReplaceFailed are put = (texts, are, put)
IsInstalling-put R E texts a c between after troubles.EndsFailed are put = (texts, are, put)
IsInstalling-put R E texts a c between after troubles.OutOfMemory are put = absurd put
IsInstalling-put R E texts a c between after troubles.ReadFailed are put = absurd put
IsInstalling-put R E texts a c between after (troubles.Missing file) are put = absurd put
IsInstalling-put R E texts a c between after (troubles.SetupRefused fault) are put = absurd put
IsInstalling-put R E texts a c between after (troubles.WordsRefused fault) are put = absurd put
IsInstalling-put R E texts a c between after (troubles.LogRefused fault) are put = absurd put
IsInstalling-put R E texts a c between after (troubles.Serving fault) are put = absurd put
IsInstalling-put R E texts a c between after troubles.PhraseRefused are put = absurd put
IsInstalling-put R E texts a c between after (troubles.ResponseRefused fault) are put = absurd put
IsInstalling-put R E texts a c between after (troubles.NoRenewal fault) are put = absurd put

-- the input renews nothing
pub IsRenewing-none : (parts : RenewParts) (basis : Basis) (R E : Type 0) (user : Name) (contents : Option Contents) (before after : Option Link) (trouble : Trouble) → name_bytes user ≡ parts.user → renewals.IsOutcome basis.setup basis.dictionary user before after E (Err trouble) → IsRenewing parts basis contents contents before after R E (Err trouble)
IsRenewing-none parts basis R E user contents before after troubles.OutOfMemory named comes = (received-of basis.setup basis.dictionary user (Err troubles.OutOfMemory) before after comes, same-files contents)
IsRenewing-none parts basis R E user contents before after troubles.EndsFailed named comes = inl (record { user = user; named = named; comes = comes }, same-files contents)
IsRenewing-none parts basis R E user contents before after troubles.ReplaceFailed named comes = absurd comes
IsRenewing-none parts basis R E user contents before after troubles.ReadFailed named comes = (record { user = user; named = named; comes = comes }, same-files contents)
IsRenewing-none parts basis R E user contents before after (troubles.Missing file) named comes = (record { user = user; named = named; comes = comes }, same-files contents)
IsRenewing-none parts basis R E user contents before after (troubles.SetupRefused fault) named comes = (record { user = user; named = named; comes = comes }, same-files contents)
IsRenewing-none parts basis R E user contents before after (troubles.WordsRefused fault) named comes = (record { user = user; named = named; comes = comes }, same-files contents)
IsRenewing-none parts basis R E user contents before after (troubles.LogRefused fault) named comes = (record { user = user; named = named; comes = comes }, same-files contents)
IsRenewing-none parts basis R E user contents before after (troubles.Serving fault) named comes = (record { user = user; named = named; comes = comes }, same-files contents)
IsRenewing-none parts basis R E user contents before after troubles.PhraseRefused named comes = (record { user = user; named = named; comes = comes }, same-files contents)
IsRenewing-none parts basis R E user contents before after (troubles.ResponseRefused fault) named comes = (record { user = user; named = named; comes = comes }, same-files contents)
IsRenewing-none parts basis R E user contents before after (troubles.NoRenewal fault) named comes = (record { user = user; named = named; comes = comes }, same-files contents)

-- the same over files that stayed as they were before
IsRead-later : (parts : RenewParts) (basis : Basis) (R E : Type 0) (Step : Contents → Contents → Type 0) (a b c : Option Contents) (before after : Option Link) (result : Result Renewed Trouble) → Goes SameFiles a b → Goes Step b c → IfSome b (IsReady parts basis) → IsRenewing parts basis a c before after R E result → IsRead parts a c before after R E result
IsRead-later parts basis R E Step a b c before after result goes step has renewing =
    record { basis = basis; stood = IsReady-before a b c parts basis Step goes step has; renewing = renewing }

pub IsOutcome-read : (parts : RenewParts) (basis : Basis) (R R' E : Type 0) (a b c : Option Contents) (before after : Option Link) (ReadFailed : Type 0) (result : Result Renewed Trouble) → Goes SameFiles a b → IfSome b (IsReady parts basis) → (R → R') → IsRenewing parts basis b c before after R E result → IsOutcome parts a c before after ReadFailed R' E result
IsOutcome-read parts basis R R' E a b c before after ReadFailed (Ok renewed) goes has r h =
    IsRead-later parts basis R' E (Replaced h.0.file h.0.bytes.items) a b c before after (Ok renewed) goes h.3.0 has (h.0, h.1, h.2, (same-replaced h.0.file h.0.bytes.items a b c goes h.3.0, h.3.1))
IsOutcome-read parts basis R R' E a b c before after ReadFailed (Err (troubles.ResponseRefused fault)) goes has r h =
    IsRead-later parts basis R' E SameFiles a b c before after (Err (troubles.ResponseRefused fault)) goes h.1 has (h.0, SameFiles-then a b c goes h.1)
IsOutcome-read parts basis R R' E a b c before after ReadFailed (Err (troubles.NoRenewal fault)) goes has r h =
    IsRead-later parts basis R' E SameFiles a b c before after (Err (troubles.NoRenewal fault)) goes h.1 has (h.0, SameFiles-then a b c goes h.1)
IsOutcome-read parts basis R R' E a b c before after ReadFailed (Err troubles.ReplaceFailed) goes has r h =
    IsRead-later parts basis R' E (MayBeReplaced h.0.file h.0.bytes.items) a b c before after (Err troubles.ReplaceFailed) goes h.4.1 has (h.0, h.1, h.2, h.3, (r h.4.0, same-may_be_replaced h.0.file h.0.bytes.items a b c goes h.4.1, h.4.2))
IsOutcome-read parts basis R R' E a b c before after ReadFailed (Err troubles.EndsFailed) goes has r (inl h) =
    IsRead-later parts basis R' E SameFiles a b c before after (Err troubles.EndsFailed) goes h.1 has (inl (h.0, SameFiles-then a b c goes h.1))
IsOutcome-read parts basis R R' E a b c before after ReadFailed (Err troubles.EndsFailed) goes has r (inr h) =
    IsRead-later parts basis R' E (Replaced h.0.file h.0.bytes.items) a b c before after (Err troubles.EndsFailed) goes h.4.1 has (inr (h.0, h.1, h.2, h.3, (h.4.0, same-replaced h.0.file h.0.bytes.items a b c goes h.4.1, h.4.2)))
IsOutcome-read parts basis R R' E a b c before after ReadFailed (Err troubles.OutOfMemory) goes has r h = (SameFiles-then a b c goes h.1, h.0)
IsOutcome-read parts basis R R' E a b c before after ReadFailed (Err troubles.ReadFailed) goes has r h = absurd h.0.comes
IsOutcome-read parts basis R R' E a b c before after ReadFailed (Err (troubles.Missing file)) goes has r h = absurd h.0.comes
IsOutcome-read parts basis R R' E a b c before after ReadFailed (Err (troubles.SetupRefused fault)) goes has r h = absurd h.0.comes
IsOutcome-read parts basis R R' E a b c before after ReadFailed (Err (troubles.WordsRefused fault)) goes has r h = absurd h.0.comes
IsOutcome-read parts basis R R' E a b c before after ReadFailed (Err (troubles.LogRefused fault)) goes has r h = absurd h.0.comes
IsOutcome-read parts basis R R' E a b c before after ReadFailed (Err (troubles.Serving fault)) goes has r h = absurd h.0.comes
IsOutcome-read parts basis R R' E a b c before after ReadFailed (Err troubles.PhraseRefused) goes has r h = absurd h.0.comes

-- ---- where it was not

pub IsOutcome-unread : (parts : RenewParts) (a b : Option Contents) (link : Option Link) (ReadFailed ReplaceFailed EndsFailed : Type 0) (trouble : Trouble) → IsUnready parts b ReadFailed trouble → Goes SameFiles a b → IsOutcome parts a b link link ReadFailed ReplaceFailed EndsFailed (Err trouble)
IsOutcome-unread parts a b link R P E troubles.ReadFailed why goes = record { why = why; files = goes; ends = refl }
IsOutcome-unread parts a b link R P E (troubles.Missing file) why goes = record { why = why; files = goes; ends = refl }
IsOutcome-unread parts a b link R P E (troubles.SetupRefused fault) why goes = record { why = why; files = goes; ends = refl }
IsOutcome-unread parts a b link R P E (troubles.WordsRefused fault) why goes = record { why = why; files = goes; ends = refl }
IsOutcome-unread parts a b link R P E (troubles.LogRefused fault) why goes = record { why = why; files = goes; ends = refl }
IsOutcome-unread parts a b link R P E (troubles.Serving fault) why goes = record { why = why; files = goes; ends = refl }
IsOutcome-unread parts a b link R P E troubles.PhraseRefused why goes = record { why = why; files = goes; ends = refl }
IsOutcome-unread parts a b link R P E troubles.OutOfMemory why goes = (goes, nothing-received link)
IsOutcome-unread parts a b link R P E troubles.ReplaceFailed why goes = absurd why
IsOutcome-unread parts a b link R P E troubles.EndsFailed why goes = absurd why
IsOutcome-unread parts a b link R P E (troubles.ResponseRefused fault) why goes = absurd why
IsOutcome-unread parts a b link R P E (troubles.NoRenewal fault) why goes = absurd why

-- the line and the bytes of a renewal of a user
IsMade-of : (parts : RenewParts) (basis : Basis) (user : Name) (renewal : Renewal) (renewed : Renewed) (texts : Texts) (before between : Option Link) → name_bytes user ≡ parts.user → Goes (renewals.Comes basis.setup basis.dictionary user (Ok renewal)) before between → renewed ≡ renewal.renewed → AreTexts parts renewal texts → IsMade parts basis renewed texts before between
IsMade-of parts basis user renewal renewed texts before between named comes is texts_are = record {
  renewal = renewal;
  renewed_is = is;
  received = record { user = user; named = named; comes = comes };
  texts_are = texts_are;
}

-- what was installed of a response that renews the account
pub IsRenewing-installed : (parts : RenewParts) (basis : Basis) (R E E' : Type 0) (user : Name) (renewal : Renewal) (a c : Option Contents) (before between after : Option Link) (result : Result Renewed Trouble) → name_bytes user ≡ parts.user → Goes (renewals.Comes basis.setup basis.dictionary user (Ok renewal)) before between → (E → E') → IsInstalling parts renewal a c between after R E result → IsRenewing parts basis a c before after R E' result
IsRenewing-installed parts basis R E E' user renewal a c before between after (Ok renewed) named comes e h =
    (h.1, between, IsMade-of parts basis user renewal renewed h.1 before between named comes h.0 h.2, h.3)
IsRenewing-installed parts basis R E E' user renewal a c before between after (Err troubles.OutOfMemory) named comes e h = rw (h.0, h.1) (received-of _ _ user (Ok renewal) before between comes, same-files a)
IsRenewing-installed parts basis R E E' user renewal a c before between after (Err troubles.ReplaceFailed) named comes e h =
    (h.0, between, renewal.renewed, IsMade-of parts basis user renewal renewal.renewed h.0 before between named comes refl h.1, h.2)
IsRenewing-installed parts basis R E E' user renewal a c before between after (Err troubles.EndsFailed) named comes e h =
    inr (h.0, between, renewal.renewed, IsMade-of parts basis user renewal renewal.renewed h.0 before between named comes refl h.1, (e h.2.0, h.2.1, h.2.2))
IsRenewing-installed parts basis R E E' user renewal a c before between after (Err troubles.ReadFailed) named comes e h = absurd h.2
IsRenewing-installed parts basis R E E' user renewal a c before between after (Err (troubles.Missing file)) named comes e h = absurd h.2
IsRenewing-installed parts basis R E E' user renewal a c before between after (Err (troubles.SetupRefused fault)) named comes e h = absurd h.2
IsRenewing-installed parts basis R E E' user renewal a c before between after (Err (troubles.WordsRefused fault)) named comes e h = absurd h.2
IsRenewing-installed parts basis R E E' user renewal a c before between after (Err (troubles.LogRefused fault)) named comes e h = absurd h.2
IsRenewing-installed parts basis R E E' user renewal a c before between after (Err (troubles.Serving fault)) named comes e h = absurd h.2
IsRenewing-installed parts basis R E E' user renewal a c before between after (Err troubles.PhraseRefused) named comes e h = absurd h.2
IsRenewing-installed parts basis R E E' user renewal a c before between after (Err (troubles.ResponseRefused fault)) named comes e h = absurd h.2
IsRenewing-installed parts basis R E E' user renewal a c before between after (Err (troubles.NoRenewal fault)) named comes e h = absurd h.2

-- ---- what is written

same-spares : (name : List ℕ) (a b : Option Contents) → Goes SameFiles a b → Goes (Spares name) a b
same-spares name a None goes = tt
same-spares name None (Some b) goes = absurd goes
same-spares name (Some a) (Some b) goes = record { others = λ other _. goes.same other }

replaced-spares : (file name bytes : List ℕ) (a b : Option Contents) → file ≡ name → Goes (Replaced file bytes) a b → Goes (Spares name) a b
replaced-spares file name bytes a None is goes = tt
replaced-spares file name bytes None (Some b) is goes = absurd goes
replaced-spares file name bytes (Some a) (Some b) is goes = record { others = λ other ne. goes.others other (λ e. ne (e ∙ is)) }

may_be_replaced-spares : (file name bytes : List ℕ) (a b : Option Contents) → file ≡ name → Goes (MayBeReplaced file bytes) a b → Goes (Spares name) a b
may_be_replaced-spares file name bytes a None is goes = tt
may_be_replaced-spares file name bytes None (Some b) is goes = absurd goes
may_be_replaced-spares file name bytes (Some a) (Some b) is goes = go goes.either where
  go : SameFiles a b ⊎ Replaced file bytes a b → Spares name a b
  go (inl same) = record { others = λ other _. same.same other }
  go (inr written) = record { others = λ other ne. written.others other (λ e. ne (e ∙ is)) }

-- no file but the setup's is another than before
pub IsOutcome-spares : (parts : RenewParts) (a b : Option Contents) (before after : Option Link) (ReadFailed ReplaceFailed EndsFailed : Type 0) (result : Result Renewed Trouble) → IsOutcome parts a b before after ReadFailed ReplaceFailed EndsFailed result → Goes (Spares parts.setup) a b
IsOutcome-spares parts a b before after R P E (Ok renewed) h = let r = h.renewing in replaced-spares r.0.file parts.setup r.0.bytes.items a b r.2.texts_are.file r.3.0
IsOutcome-spares parts a b before after R P E (Err troubles.EndsFailed) h = go h.renewing where
  go : IsRenewing parts h.basis a b before after P E (Err troubles.EndsFailed) → Goes (Spares parts.setup) a b
  go (inl none) = same-spares parts.setup a b none.1
  go (inr r) = replaced-spares r.0.file parts.setup r.0.bytes.items a b r.3.texts_are.file r.4.1
IsOutcome-spares parts a b before after R P E (Err troubles.ReplaceFailed) h = let r = h.renewing in may_be_replaced-spares r.0.file parts.setup r.0.bytes.items a b r.3.texts_are.file r.4.1
IsOutcome-spares parts a b before after R P E (Err (troubles.ResponseRefused fault)) h = same-spares parts.setup a b h.renewing.1
IsOutcome-spares parts a b before after R P E (Err (troubles.NoRenewal fault)) h = same-spares parts.setup a b h.renewing.1
IsOutcome-spares parts a b before after R P E (Err troubles.OutOfMemory) h = same-spares parts.setup a b h.0
IsOutcome-spares parts a b before after R P E (Err troubles.ReadFailed) h = same-spares parts.setup a b h.files
IsOutcome-spares parts a b before after R P E (Err (troubles.Missing file)) h = same-spares parts.setup a b h.files
IsOutcome-spares parts a b before after R P E (Err (troubles.SetupRefused fault)) h = same-spares parts.setup a b h.files
IsOutcome-spares parts a b before after R P E (Err (troubles.WordsRefused fault)) h = same-spares parts.setup a b h.files
IsOutcome-spares parts a b before after R P E (Err (troubles.LogRefused fault)) h = same-spares parts.setup a b h.files
IsOutcome-spares parts a b before after R P E (Err (troubles.Serving fault)) h = same-spares parts.setup a b h.files
IsOutcome-spares parts a b before after R P E (Err troubles.PhraseRefused) h = same-spares parts.setup a b h.files

pub IsOutcome-unwritten : (parts : RenewParts) (a b : Option Contents) (before after : Option Link) (ReadFailed ReplaceFailed EndsFailed : Type 0) (result : Result Renewed Trouble) → IsOutcome parts a b before after ReadFailed ReplaceFailed EndsFailed result → may_be_written result ≡ false → Goes SameFiles a b
IsOutcome-unwritten parts a b before after R P E (Ok renewed) h none = absurd cc
IsOutcome-unwritten parts a b before after R P E (Err troubles.EndsFailed) h none = absurd cc
IsOutcome-unwritten parts a b before after R P E (Err troubles.ReplaceFailed) h none = absurd cc
IsOutcome-unwritten parts a b before after R P E (Err (troubles.ResponseRefused fault)) h none = h.renewing.1
IsOutcome-unwritten parts a b before after R P E (Err (troubles.NoRenewal fault)) h none = h.renewing.1
IsOutcome-unwritten parts a b before after R P E (Err troubles.OutOfMemory) h none = h.0
IsOutcome-unwritten parts a b before after R P E (Err troubles.ReadFailed) h none = h.files
IsOutcome-unwritten parts a b before after R P E (Err (troubles.Missing file)) h none = h.files
IsOutcome-unwritten parts a b before after R P E (Err (troubles.SetupRefused fault)) h none = h.files
IsOutcome-unwritten parts a b before after R P E (Err (troubles.WordsRefused fault)) h none = h.files
IsOutcome-unwritten parts a b before after R P E (Err (troubles.LogRefused fault)) h none = h.files
IsOutcome-unwritten parts a b before after R P E (Err (troubles.Serving fault)) h none = h.files
IsOutcome-unwritten parts a b before after R P E (Err troubles.PhraseRefused) h none = h.files
