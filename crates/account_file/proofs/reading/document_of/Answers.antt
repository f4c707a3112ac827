use Rattle.std.proofs.Common.{◌≡◌, ◌∙◌, ℕ, List, Bool, true, Option, Some, None, Ok, length, cond, sym, ap, eq-eqb}
use Rattle.std.specs.Prelude.{◌==◌}
use Rattle.std.specs.Str.{IsUtf8}
use Rattle.std.specs.Str.Lossy.{utf8_valid_len}
use Rattle.std.proofs.lemmas.Str.{utf8_valid_len-IsUtf8}
use Rattle.toml.specs.Data.{Members}
use Rattle.toml.specs.Parse.{parse_document}
use Rattle.account_file.specs.declared.fault.SetupKey.TheVariants.{File}
use Rattle.account_file.specs.declared.fault.SetupRule.TheVariants.{NotToml}
use Rattle.account_file.specs.Faults.{demand_at}
use Rattle.account_file.specs.Setups.{document_of}
use Rattle.account_file.proofs.reading.document_of.Goals as goal

-- UTF-8 that parses is a document
parsed : (bytes : List ℕ) (entries : Members) → IsUtf8 bytes → parse_document bytes ≡ Some entries → demand_at 0 File NotToml (document_of bytes) ≡ Ok entries
parsed bytes entries utf8 e =
    let test : (utf8_valid_len bytes == length bytes) ≡ true = eq-eqb (utf8_valid_len bytes) (length bytes) (utf8_valid_len-IsUtf8 bytes utf8) in
    ap (λ (t : Bool). demand_at 0 File NotToml (cond t (parse_document bytes) None)) test ∙ ap (λ (o : Option Members). demand_at 0 File NotToml o) e

pub returns-in-Ok-table_from_str : goal.returns-in-Ok-table_from_str
returns-in-Ok-table_from_str c = parsed c.args.bytes.now _ c.in-Ok.ensures.cases.1 (ap parse_document (sym c.in-Ok.ensures.cases.0) ∙ c.in-Ok-table_from_str.ensures.ok)
