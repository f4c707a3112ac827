use Rattle.std.proofs.Common.{◌≡◌, ◌+◌, ◌∙◌, ap, sym, true}
use Rattle.policy_model.specs.declared.event.Ask.{Ask}
use Rattle.policy_model.specs.declared.event.Decision.TheVariants.{Permit}
use Rattle.policy_model.specs.Logins.{account_of}
use Rattle.policy_model.specs.Verdict.{account_verdict, verdict_of}
use Rattle.policy_laws.specs.Strangers.{without_readings}
use Rattle.audit_check.specs.Following.{rests_on_accounts}
use Rattle.audit_check.proofs.Gates.{challenge_is, info_is, other_is, quiet_is, reply_is}
use Rattle.audit_check.proofs.following.verdict_by_accounts.Goals as goal

pub returns-then-not-rests_on_accounts : goal.returns-then-not-rests_on_accounts
returns-then-not-rests_on_accounts c = λ events kept.
    c.judge-verdict.ensures.verdict
    ∙ quiet_is c.args.setup.now events c.recent-recent.result.now c.args.event.now.worker c.args.event.now.ask c.requires.shown c.requires.other (c.recent-recent.ensures c.args.setup.now events kept) (c.recent-recent.ensures c.args.setup.now events kept).session
    (sym (ap rests_on_accounts c.judge-verdict.ensures.verdict) ∙ sym c.rests_on_accounts.ensures ∙ c.if-not-rests_on_accounts.true)

pub returns-in-Challenge : goal.returns-in-Challenge
returns-in-Challenge c = λ events kept.
    let rests : rests_on_accounts (verdict_of c.args.setup.now c.recent-recent.result.now c.args.event.now.worker c.args.event.now.ask) ≡ true = sym (ap rests_on_accounts c.judge-verdict.ensures.verdict) ∙ sym c.rests_on_accounts.ensures ∙ c.if-not-rests_on_accounts.false in
    c.judge_challenge.ensures events kept
    ∙ ap (λ n. account_verdict c.args.setup.now events n c.in-Challenge.user c.in-Challenge.now (account_of c.args.setup.now c.in-Challenge.user)) (c.open_session-session.ensures ∙ (c.recent-recent.ensures c.args.setup.now events kept).session)
    ∙ challenge_is c.args.setup.now events c.recent-recent.result.now c.args.event.now.worker c.in-Challenge.user c.in-Challenge.now (c.recent-recent.ensures c.args.setup.now events kept) (c.recent-recent.ensures c.args.setup.now events kept).session
    (sym (ap (λ (a : Ask). rests_on_accounts (verdict_of c.args.setup.now c.recent-recent.result.now c.args.event.now.worker a)) c.in-Challenge.is) ∙ rests)
    ∙ ap (verdict_of c.args.setup.now events c.args.event.now.worker) (sym c.in-Challenge.is)

pub returns-in-Reply : goal.returns-in-Reply
returns-in-Reply c = λ events kept.
    let rests : rests_on_accounts (verdict_of c.args.setup.now c.recent-recent.result.now c.args.event.now.worker c.args.event.now.ask) ≡ true = sym (ap rests_on_accounts c.judge-verdict.ensures.verdict) ∙ sym c.rests_on_accounts.ensures ∙ c.if-not-rests_on_accounts.false in
    let both = reply_is c.args.setup.now events c.recent-recent.result.now c.args.event.now.worker c.in-Reply.words c.in-Reply.hex (sym (ap without_readings c.in-Reply.is) ∙ c.requires.shown ∙ c.in-Reply.is) (c.recent-recent.ensures c.args.setup.now events kept) (c.recent-recent.ensures c.args.setup.now events kept).session
    (sym (ap (λ (a : Ask). rests_on_accounts (verdict_of c.args.setup.now c.recent-recent.result.now c.args.event.now.worker a)) c.in-Reply.is) ∙ rests) in
    c.judge_reply.ensures events kept both.0 ∙ both.1 ∙ ap (verdict_of c.args.setup.now events c.args.event.now.worker) (sym c.in-Reply.is)

pub returns-in-Info : goal.returns-in-Info
returns-in-Info c = λ events kept.
    let rests : rests_on_accounts (verdict_of c.args.setup.now c.recent-recent.result.now c.args.event.now.worker c.args.event.now.ask) ≡ true = sym (ap rests_on_accounts c.judge-verdict.ensures.verdict) ∙ sym c.rests_on_accounts.ensures ∙ c.if-not-rests_on_accounts.false in
    let both = info_is c.args.setup.now events c.recent-recent.result.now c.args.event.now.worker c.in-Info.number (c.recent-recent.ensures c.args.setup.now events kept) (c.recent-recent.ensures c.args.setup.now events kept).session
    (sym (ap (λ (a : Ask). rests_on_accounts (verdict_of c.args.setup.now c.recent-recent.result.now c.args.event.now.worker a)) c.in-Info.is) ∙ rests) in
    c.judge_info.ensures events kept both.0 ∙ both.1 ∙ ap (verdict_of c.args.setup.now events c.args.event.now.worker) (sym c.in-Info.is)

pub returns-in_default : goal.returns-in_default
returns-in_default c = λ events kept.
    ap (λ n. Permit (n + 1)) (c.from.ensures ∙ kept.opened)
    ∙ other_is c.args.setup.now events c.recent-recent.result.now c.args.event.now.worker c.args.event.now.ask c.requires.other (λ user now h. c.in_default.not-Challenge user now h) (λ words hex h. c.in_default.not-Reply words hex h) (λ number h. c.in_default.not-Info number h) (c.recent-recent.ensures c.args.setup.now events kept).session
    (sym (ap rests_on_accounts c.judge-verdict.ensures.verdict) ∙ sym c.rests_on_accounts.ensures ∙ c.if-not-rests_on_accounts.false)
