use Rattle.std.proofs.Common.{◌∙◌, ◌++◌, ◌∷◌, [], sym, ap, subst}
use Rattle.otp_ledger.specs.Accounts.{LedgerParts}
use Rattle.session_core.specs.Parts.{CoreParts, row_of}
use Rattle.session_core.specs.Standing.{HasJournal, Stands}
use Rattle.session_core.proofs.StandLemmas.{core_after_is, event_following, fits_accounts, fits_rows, journal_push, opening_room, same_cap, same_setup, stands_push}
use Rattle.session_core.proofs.whole.Core.settle.Goals as goal

pub settle-requires-clause-accounts : goal.settle-requires-clause-accounts
settle-requires-clause-accounts c =
    let journal = c.self.invariant.journal in
    let core : CoreParts = record { ledger = c.self.inside.ledger; table = c.self.inside.table; settled = c.self.inside.settled } in
    fits_accounts core journal c.args.event.now c.self.invariant.core_is
    (event_following core c.args.self.now journal c.args.event.now c.self.view_is c.self.invariant.stands c.requires.worker c.requires.room.few c.requires.next)

pub settle-requires-clause-rows : goal.settle-requires-clause-rows
settle-requires-clause-rows c =
    let journal = c.self.invariant.journal in
    let core : CoreParts = record { ledger = c.self.inside.ledger; table = c.self.inside.table; settled = c.self.inside.settled } in
    fits_rows core journal c.args.event.now
    (event_following core c.args.self.now journal c.args.event.now c.self.view_is c.self.invariant.stands c.requires.worker c.requires.room.few c.requires.next)

pub invariant_of-self : goal.invariant_of-self
invariant_of-self c =
    let journal = c.self.invariant.journal in
    let core : CoreParts = record { ledger = c.self.inside.ledger; table = c.self.inside.table; settled = c.self.inside.settled } in
    subst HasJournal (sym (core_after_is core c.args.event.now c.settle.new.ledger c.settle.new.table c.settle.ensures.accounts c.settle.ensures.rows))
    (journal_push core journal c.args.event.now c.self.invariant.core_is
    (event_following core c.args.self.now journal c.args.event.now c.self.view_is c.self.invariant.stands c.requires.worker c.requires.room.few c.requires.next)
    (opening_room core c.args.self.now c.args.event.now c.self.view_is c.requires.room.openings))

pub returns-clause-kept : goal.returns-clause-kept
returns-clause-kept c =
    let core : CoreParts = record { ledger = c.self.inside.ledger; table = c.self.inside.table; settled = c.self.inside.settled } in
    let e = c.args.event.now in
    record {
      setup_is = ap (λ (l : LedgerParts). l.setup) c.settle.ensures.accounts ∙ same_setup core.ledger (row_of core e.worker) e ∙ ap (λ (x : CoreParts). x.ledger.setup) c.self.view_is;
      cap_is = ap (λ (l : LedgerParts). l.cap) c.settle.ensures.accounts ∙ same_cap core.ledger (row_of core e.worker) e ∙ ap (λ (x : CoreParts). x.ledger.cap) c.self.view_is;
    }

pub returns-clause-stands : goal.returns-clause-stands
returns-clause-stands c journal st =
    let core : CoreParts = record { ledger = c.self.inside.ledger; table = c.self.inside.table; settled = c.self.inside.settled } in
    subst (λ (x : CoreParts). Stands x (journal ++ c.args.event.now ∷ [])) (sym (core_after_is core c.args.event.now c.settle.new.ledger c.settle.new.table c.settle.ensures.accounts c.settle.ensures.rows))
    (stands_push core journal c.args.event.now c.self.invariant.core_is
    (event_following core c.args.self.now journal c.args.event.now c.self.view_is (subst (λ (x : CoreParts). Stands x journal) (sym c.self.view_is) st) c.requires.worker c.requires.room.few c.requires.next))
