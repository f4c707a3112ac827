use Rattle.std.proofs.Common.{◌≡◌, ◌<◌, ◌≤◌, Ok, Err, length, option_map, ap, subst, arith}
use Rattle.account_file.specs.Entries.{entries_of}
use Rattle.account_file.specs.Faults.{Answers}
use Rattle.account_file.specs.Setups.{setup_of}
use Rattle.setup_reading.proofs.ReadLemmas.{judged-short}
use Rattle.kept_files.proofs.ListLemmas.{names_list, names_long, names_refused}
use Rattle.kept_files.proofs.setup.list_named.Goals as goal

pub returns-then-bytes-gt-SETUP_MAX : goal.returns-then-bytes-gt-SETUP_MAX
returns-then-bytes-gt-SETUP_MAX c =
    let bytes = c.in-Some.bytes.now in
    let many : 8388608 < length bytes = grind arith in
    names_long (option_map (λ text. text.now) c.args.text) bytes (ap (option_map (λ text. text.now)) c.in-Some.is) many

pub returns-in_ok-of-in-Ok : goal.returns-in_ok-of-in-Ok
returns-in_ok-of-in-Ok c =
    let bytes = c.in-Some.bytes.now in
    let few : length bytes ≤ 8388608 = grind arith in
    let spells : setup_of bytes ≡ Ok (entries_of c.in-Ok.setup) = subst (λ r. Answers entries_of r (setup_of bytes)) c.in-Ok.is c.read_setup.ensures in
    let named : c.in_ok-of-in-Ok.field-0 ≡ c.in-Ok.setup.words = grind arith in
    names_list (option_map (λ text. text.now) c.args.text) c.in_ok-of-in-Ok.field-0 (record {
      bytes = bytes;
      there = ap (option_map (λ text. text.now)) c.in-Some.is;
      setup = c.in-Ok.setup;
      spelled = judged-short bytes (entries_of c.in-Ok.setup) few spells;
      names = named;
    })

pub returns-in-Err-Refused : goal.returns-in-Err-Refused
returns-in-Err-Refused c =
    let bytes = c.in-Some.bytes.now in
    let fault = c.in-Err-Refused.field-0-0 in
    let spells : setup_of bytes ≡ Err fault = subst (λ error. Answers entries_of (Err error) (setup_of bytes)) c.in-Err-Refused.field-0-is c.in-Err-Refused.ensures in
    names_refused (option_map (λ text. text.now) c.args.text) bytes fault (ap (option_map (λ text. text.now)) c.in-Some.is) c.if-bytes-gt-SETUP_MAX.false spells
