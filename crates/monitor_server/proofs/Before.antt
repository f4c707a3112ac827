-- What was come to from one moment was come to from the same.
use Rattle.std.proofs.Common.{◌≡◌, List, Option, subst, sym}
use Rattle.info_hooks.specs.declared.key.Key.{Key}
use Rattle.outside.specs.Files.{Contents}
use Rattle.otp_mode.specs.Words.{OtpParts}
use Rattle.otp_extended.specs.Commands.{RenewParts}
use Rattle.recover_mode.specs.Words.{RecoverParts}
use Rattle.serve_mode.specs.Words.{Source}
use Rattle.monitor_server.specs.declared.command.AloneCommand.{AloneCommand}
use Rattle.monitor_server.specs.declared.report.Answer.{Answer}
use Rattle.monitor_server.specs.Alone.{IsRunOf}
use Rattle.monitor_server.specs.Around.{Around, Said, SidesNow, answer_in, only_answer, sides_of}
use Rattle.monitor_server.specs.Modes.{PasswordRan, RecoverRan, RenewRan}
use Rattle.monitor_server.specs.Whole.{HasServed}

pub served_from : {F S K E : Type 0} {contents : F → Option Contents} {forms : List Key} {first before after : Around F S K E} {said : Said} {source : Source}
    → first ≡ before → HasServed source forms contents first after said → HasServed source forms contents before after said
served_from {contents = contents} {forms} {after = after} {said} {source} is ran = subst (λ b. HasServed source forms contents b after said) is ran

pub printed_from : {F E : Type 0} {contents : F → Option Contents} {first before after : SidesNow F E} {answer : Answer} {parts : OtpParts}
    → first ≡ before → PasswordRan parts contents first after answer → PasswordRan parts contents before after answer
printed_from {contents = contents} {after = after} {answer} {parts} is ran = subst (λ b. PasswordRan parts contents b after answer) is ran

pub renewed_from : {F E : Type 0} {contents : F → Option Contents} {first before after : SidesNow F E} {answer : Answer} {parts : RenewParts}
    → first ≡ before → RenewRan parts contents first after answer → RenewRan parts contents before after answer
renewed_from {contents = contents} {after = after} {answer} {parts} is ran = subst (λ b. RenewRan parts contents b after answer) is ran

pub recovered_from : {F E : Type 0} {contents : F → Option Contents} {first before after : SidesNow F E} {answer : Answer} {parts : RecoverParts}
    → first ≡ before → RecoverRan parts contents first after answer → RecoverRan parts contents before after answer
recovered_from {contents = contents} {after = after} {answer} {parts} is ran = subst (λ b. RecoverRan parts contents b after answer) is ran

-- the sides of a world were taken apart from it and put back
pub answered_from : {F S K E : Type 0} (contents : F → Option Contents) (forms : List Key) {first last before after : Around F S K E} {sides : SidesNow F E} {answer : Answer} {said : Said} (command : AloneCommand)
    → first ≡ before → sides_of last ≡ sides → after ≡ last → said ≡ only_answer answer
    → IsRunOf command forms contents (sides_of first) sides answer
    → IsRunOf command forms contents (sides_of before) (sides_of after) (answer_in said)
answered_from contents forms {first} {last} {before} {after} {sides} {answer} {said} command from back to told ran =
    subst (λ b. IsRunOf command forms contents (sides_of b) (sides_of after) (answer_in said)) from
    (subst (λ a. IsRunOf command forms contents (sides_of first) (sides_of a) (answer_in said)) (sym to)
    (subst (λ s. IsRunOf command forms contents (sides_of first) (sides_of last) (answer_in s)) (sym told)
    (subst (λ s. IsRunOf command forms contents (sides_of first) s answer) (sym back) ran)))
