use Rattle.std.proofs.Common.{IsUtf8, ap, sym, subst}
use Rattle.std.proofs.lemmas.Str.{IsUtf8-string_bytes}
use Rattle.account_writer.proofs.writing.spaced.Goals as goal

pub returns-clause-utf8 : goal.returns-clause-utf8
returns-clause-utf8 c = subst IsUtf8 (sym (ap (λ v. v.items) c.into_bytes.ensures.value)) (IsUtf8-string_bytes c.push_str.new.self)
