use Rattle.monitor_server.proofs.top.otplogd.Goals as goal

pub returns-clause-causes : goal.returns-clause-causes
returns-clause-causes g c = c.run_command.ensures.whole.causes

pub returns-clause-serve : goal.returns-clause-serve
returns-clause-serve g c = c.run_command.ensures.whole.serve

pub returns-clause-keeps : goal.returns-clause-keeps
returns-clause-keeps g c = c.run_command.ensures.whole.keeps

pub returns-clause-password : goal.returns-clause-password
returns-clause-password g c = c.run_command.ensures.whole.password

pub returns-clause-check : goal.returns-clause-check
returns-clause-check g c = c.run_command.ensures.whole.check

pub returns-clause-child : goal.returns-clause-child
returns-clause-child g c = c.run_command.ensures.whole.child

pub returns-clause-audit : goal.returns-clause-audit
returns-clause-audit g c = c.run_command.ensures.whole.audit

pub returns-clause-renew : goal.returns-clause-renew
returns-clause-renew g c = c.run_command.ensures.whole.renew

pub returns-clause-recover : goal.returns-clause-recover
returns-clause-recover g c = c.run_command.ensures.whole.recover

pub returns-clause-enrol : goal.returns-clause-enrol
returns-clause-enrol g c = c.run_command.ensures.whole.enrol

pub returns-clause-leaves : goal.returns-clause-leaves
returns-clause-leaves g c = c.run_command.ensures.whole.leaves

pub returns-clause-changes : goal.returns-clause-changes
returns-clause-changes g c = c.run_command.ensures.whole.changes

pub returns-clause-drill : goal.returns-clause-drill
returns-clause-drill g c = c.run_command.ensures.whole.drill

pub returns-clause-logged : goal.returns-clause-logged
returns-clause-logged g c = c.run_command.ensures.logged

pub returns-clause-touches : goal.returns-clause-touches
returns-clause-touches g c = c.run_command.ensures.whole.touches
