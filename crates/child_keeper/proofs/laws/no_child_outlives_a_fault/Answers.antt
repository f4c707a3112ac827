use Rattle.child_keeper.proofs.Live.{lives_changed, lives_given_back, lives_started}
use Rattle.child_keeper.proofs.laws.no_child_outlives_a_fault.Goals as goal

pub returns-clause-started : goal.returns-clause-started
returns-clause-started c = lives_started

pub returns-clause-changed : goal.returns-clause-changed
returns-clause-changed c = lives_changed

pub returns-clause-given_back : goal.returns-clause-given_back
returns-clause-given_back c = lives_given_back
