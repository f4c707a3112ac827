-- What follows of the journal that steps give.
use Rattle.std.proofs.Common.{◌≤◌, List, arith}
use Rattle.session_laws.proofs.Openings.{openings_few}
use Rattle.policy_model.specs.declared.event.Event.{Event}
use Rattle.policy_model.specs.Legal.{IsLegal}
use Rattle.policy_model.specs.Settings.{Settings}
use Rattle.policy_laws.proofs.Exports.{verified_before_export}
use Rattle.policy_laws.proofs.Replies.{no_password_twice}
use Rattle.policy_laws.proofs.Sequences.{one_taker_at_a_time, sequence_falls}
use Rattle.policy_laws.specs.Consequences.{HasConsequences}
use Rattle.session_core.specs.Parts.{CoreParts}
use Rattle.session_core.specs.Standing.{Stands}

pub consequences : (setup : Settings) (journal : List Event) → IsLegal setup journal → HasConsequences setup journal
consequences setup journal legal = record {
  verified = verified_before_export setup journal legal;
  once = no_password_twice setup journal legal;
  falls = sequence_falls setup journal legal;
  one_taker = one_taker_at_a_time setup journal legal;
}

-- no more sessions were opened than events were settled
pub begun_few : (core : CoreParts) (journal : List Event) → Stands core journal → core.table.begun ≤ core.settled
begun_few core journal st = omega (arith, st.settled, st.rows.begun, openings_few journal)
