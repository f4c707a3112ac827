use Rattle.std.proofs.Common.{Ok, Err, subst}
use Rattle.std.proofs.lemmas.Result.{on_ok_weaker}
use Rattle.outside.specs.FilesNow.{files_now}
use Rattle.kept_files.specs.Files.{kept_now}
use Rattle.monitor_server.specs.Commands.{IsReading}
use Rattle.serve_mode.specs.Commands.{source_of}
use Rattle.otplogd.proofs.NamedFiles.{kept_given, kept_served, named_alone, named_drilled, named_served, named_unread}
use Rattle.otplogd.proofs.keeping.keep_named.Goals as goal

pub returns-in-Ok-Serve-clause-reads : goal.returns-in-Ok-Serve-clause-reads
returns-in-Ok-Serve-clause-reads g c =
    let now = kept_now (files_now g.F.Files.contents g.F.Files.read_faults g.F.Files.replace_faults g.F.Files.touched) in
    kept_served c.args.words.now (source_of c.in-Ok-Serve.command) (subst (λ command. IsReading c.args.words.now (Ok command)) c.in-Ok-Serve.field-0-is c.in-Ok-Serve.ensures) (now c.args.files.now) (now c.keep_served.new.files) c.keep_served.ensures.reads

pub returns-in-Ok-Serve-clause-kept : goal.returns-in-Ok-Serve-clause-kept
returns-in-Ok-Serve-clause-kept g c =
    on_ok_weaker c.keep_served.result
    (named_served c.args.words.now (source_of c.in-Ok-Serve.command) c.keep_served.new.files.shelf (subst (λ command. IsReading c.args.words.now (Ok command)) c.in-Ok-Serve.field-0-is c.in-Ok-Serve.ensures))
    c.keep_served.ensures.kept

pub returns-in-Ok-Alone-clause-reads : goal.returns-in-Ok-Alone-clause-reads
returns-in-Ok-Alone-clause-reads g c =
    let now = kept_now (files_now g.F.Files.contents g.F.Files.read_faults g.F.Files.replace_faults g.F.Files.touched) in
    kept_given c.args.words.now c.in-Ok-Alone.command (subst (λ command. IsReading c.args.words.now (Ok command)) c.in-Ok-Alone.field-0-is c.in-Ok-Alone.ensures) (now c.args.files.now) (now c.keep_given.new.files) c.keep_given.ensures.reads

pub returns-in-Ok-Alone-clause-kept : goal.returns-in-Ok-Alone-clause-kept
returns-in-Ok-Alone-clause-kept g c =
    on_ok_weaker c.keep_given.result
    (named_alone c.args.words.now c.in-Ok-Alone.command c.keep_given.new.files.shelf (subst (λ command. IsReading c.args.words.now (Ok command)) c.in-Ok-Alone.field-0-is c.in-Ok-Alone.ensures))
    c.keep_given.ensures.kept

pub returns-in-Ok-Drill-clause-kept : goal.returns-in-Ok-Drill-clause-kept
returns-in-Ok-Drill-clause-kept g c =
    named_drilled c.args.words.now _ c.args.files.now.shelf (subst (λ command. IsReading c.args.words.now (Ok command)) c.in-Ok-Drill.field-0-is c.in-Ok-Drill.ensures)

pub returns-in-Err-NoCommand-clause-kept : goal.returns-in-Err-NoCommand-clause-kept
returns-in-Err-NoCommand-clause-kept g c =
    named_unread c.args.words.now c.args.files.now.shelf (subst (λ why. IsReading c.args.words.now (Err why)) c.in-Err-NoCommand.field-0-is c.in-Err-NoCommand.ensures)
