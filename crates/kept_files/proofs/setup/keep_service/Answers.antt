use Rattle.std.proofs.Common.{◌∷◌, [], option_map}
use Rattle.std.specs.Option.{option_to_list}
use Rattle.std.proofs.lemmas.Result.{on_ok_weaker}
use Rattle.outside.specs.FilesNow.{files_now}
use Rattle.kept_files.specs.Files.{kept_now}
use Rattle.kept_files.proofs.ListLemmas.{these_both, these_later}
use Rattle.kept_files.proofs.SetupLemmas.{kept_alone, kept_both}
use Rattle.kept_files.proofs.setup.keep_service.Goals as goal

pub returns-in_err-keep_setup-clause-reads : goal.returns-in_err-keep_setup-clause-reads
returns-in_err-keep_setup-clause-reads g c =
    let now = kept_now (files_now g.F.Files.contents g.F.Files.read_faults g.F.Files.replace_faults g.F.Files.touched) in
    kept_alone c.args.setup.now (option_to_list (option_map (λ name. name.now) c.args.log)) (c.args.setup.now ∷ []) (now c.args.files.now) (now c.keep_setup.new.files) c.keep_setup.ensures.reads

pub returns-clause-reads : goal.returns-clause-reads
returns-clause-reads g c =
    let now = kept_now (files_now g.F.Files.contents g.F.Files.read_faults g.F.Files.replace_faults g.F.Files.touched) in
    kept_both c.args.setup.now (option_to_list (option_map (λ name. name.now) c.args.log)) (c.args.setup.now ∷ []) (now c.args.files.now) (now c.keep_setup.new.files) (now c.keep_file.new.files) c.keep_setup.ensures.reads c.keep_file.ensures.reads

pub returns-clause-kept : goal.returns-clause-kept
returns-clause-kept g c =
    let setups = c.args.setup.now ∷ [] in
    let before = c.keep_setup.new.files.shelf in
    let after = c.keep_file.new.files.shelf in
    let first = these_later setups setups (λ name among. among) before after c.keep_file.ensures.reads.still c.in_ok-keep_setup.ensures.kept in
    on_ok_weaker c.keep_file.result
    (these_both setups (option_to_list (option_map (λ name. name.now) c.args.log)) setups after first)
    c.keep_file.ensures.kept
