use Rattle.std.proofs.Common.{◌≡◌, ◌∙◌, ℕ, List, Bool, true, false, Result, Ok, Err, sym, ap, subst}
use Rattle.std.specs.Bool.{then_some}
use Rattle.request_catalogue.specs.Results.{◌>>=◌}
use Rattle.toml.specs.Data.{Members}
use Rattle.toml.specs.View.{table_view}
use Rattle.account_file.specs.declared.fault.SetupFault.{SetupFault}
use Rattle.account_file.specs.declared.fault.SetupKey.TheVariants.{File, Other}
use Rattle.account_file.specs.declared.fault.SetupRule.TheVariants.{NotToml, Unknown}
use Rattle.account_file.specs.Entries.{SetupEntries, entries_of}
use Rattle.account_file.specs.Faults.{demand_at, Answers}
use Rattle.account_file.specs.Setups.{setup_keys, document_of, read_settings, setup_of}
use Rattle.account_file.specs.Spots.{spot_fault}
use Rattle.account_file.specs.Trees.{are_known}
use Rattle.account_file.proofs.EachLemmas.{handed_on}
use Rattle.account_file.proofs.reading.read_setup.Goals as goal

-- what follows from a document's entries
abbrev known_of : Members → Result SetupEntries SetupFault
known_of entries = demand_at 0 Other Unknown (then_some (are_known setup_keys entries) entries) >>= read_settings

-- the setup of bytes, by what their document is
setup_by : (bytes : List ℕ) (r : Result Members SetupFault) → demand_at 0 File NotToml (document_of bytes) ≡ r → setup_of bytes ≡ (r >>= known_of)
unfolding setup_of
setup_by bytes r e = ap (λ (x : Result Members SetupFault). x >>= known_of) e

-- by whether its keys have a meaning
known_by : (entries : Members) (known : Bool) → are_known setup_keys entries ≡ known → known_of entries ≡ (demand_at 0 Other Unknown (then_some known entries) >>= read_settings)
known_by entries known e = ap (λ (b : Bool). demand_at 0 Other Unknown (then_some b entries) >>= read_settings) e

pub returns-in_err-table : goal.returns-in_err-table
returns-in_err-table c = handed_on entries_of table_view c.from_residual.result c.in_err-table.field-0.0 _ _ c.from_residual.ensures.1 c.in_err-table.ensures (λ f fault. setup_by c.args.bytes.now (Err f) fault)

pub returns-then-not-are_known : goal.returns-then-not-are_known
returns-then-not-are_known c =
    let entries = table_view c.in_ok-table.table in
    setup_by c.args.bytes.now (Ok entries) c.in_ok-table.ensures
    ∙ known_by entries false (sym c.if-not-are_known.ensures)
    ∙ ap (λ (f : SetupFault). Err f) (sym (c.breaks.ensures ∙ ap (λ s. spot_fault s Unknown) c.new.ensures))

pub returns : goal.returns
returns c =
    let entries = table_view c.in_ok-table.table in
    let there : setup_of c.args.bytes.now ≡ read_settings entries = setup_by c.args.bytes.now (Ok entries) c.in_ok-table.ensures ∙ known_by entries true (sym c.if-not-are_known.ensures) in
    subst (λ (r : Result SetupEntries SetupFault). Answers entries_of c.read_settings.result r) (sym there) c.read_settings.ensures
