-- Inner: the children that links hold.
use Rattle.child_keeper.specs.declared.link.PreLink.{PreLink}
use Rattle.child_keeper.specs.declared.link.UserLink.{UserLink}

-- the child before the login that a link holds
abbrev pub pre_child : {C : Type 0} → PreLink C → C
pre_child link = link.child

-- the user's child that a link holds
abbrev pub user_child : {C : Type 0} → UserLink C → C
user_child link = link.child
