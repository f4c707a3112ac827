use Rattle.otp_extended.proofs.OnlyLemmas.{read_by}
use Rattle.std.proofs.Common.{◌∙◌, Some, sym, ap}
use Rattle.otp_extended.specs.declared.response.Kind.TheVariants as kinds
use Rattle.otp_extended.proofs.PartLemmas.{reading_by}
use Rattle.otp_extended.proofs.response.read_response.Goals as goal

pub returns-in-Some-Plain-clause-reading : goal.returns-in-Some-Plain-clause-reading
returns-in-Some-Plain-clause-reading c =
    reading_by c.args.dictionary.now c.args.text.now c.in-Some.word.front.now c.in-Some.word.rest.now (Some (kinds.Plain c.in-Some-Plain.form)) c.read_plain.result c.in-Some.ensures.cut (sym c.kind_of.ensures ∙ c.in-Some-Plain.is ∙ ap Some c.in-Some-Plain.field-0-is) c.read_plain.ensures.plain

pub returns-in-Some-Init-clause-reading : goal.returns-in-Some-Init-clause-reading
returns-in-Some-Init-clause-reading c =
    reading_by c.args.dictionary.now c.args.text.now c.in-Some.word.front.now c.in-Some.word.rest.now (Some (kinds.Init c.in-Some-Init.form)) c.read_init.result c.in-Some.ensures.cut (sym c.kind_of.ensures ∙ c.in-Some-Init.is ∙ ap Some c.in-Some-Init.field-0-is) c.read_init.ensures.init

pub returns-in-Some-Plain-clause-only : goal.returns-in-Some-Plain-clause-only
returns-in-Some-Plain-clause-only c = λ answer is.
    c.read_plain.ensures.only answer (read_by c.args.dictionary.now c.args.text.now c.in-Some.word.front.now c.in-Some.word.rest.now (Some (kinds.Plain c.in-Some-Plain.form)) answer c.in-Some.ensures.cut (sym c.kind_of.ensures ∙ c.in-Some-Plain.is ∙ ap Some c.in-Some-Plain.field-0-is) is)

pub returns-in-Some-Init-clause-only : goal.returns-in-Some-Init-clause-only
returns-in-Some-Init-clause-only c = λ answer is.
    c.read_init.ensures.only answer (read_by c.args.dictionary.now c.args.text.now c.in-Some.word.front.now c.in-Some.word.rest.now (Some (kinds.Init c.in-Some-Init.form)) answer c.in-Some.ensures.cut (sym c.kind_of.ensures ∙ c.in-Some-Init.is ∙ ap Some c.in-Some-Init.field-0-is) is)
