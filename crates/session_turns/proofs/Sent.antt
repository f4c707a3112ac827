-- A book may go to any thread, if its log may: step by step, since one search over the whole book stops at its limit.
use denote.RattleType.{RattleType}
use denote.Param.Send.{IsSend, sendable, struct_send}
use denote.Struct.Declared.{shape}
use denote.Param.SendFields.{declared_send}
use Rattle.std.proofs.Crossing.{crosses}
use Rattle.policy_model.specs.contracts.account.Account as account
use Rattle.policy_model.specs.contracts.account.Accounts as accounts
use Rattle.policy_model.specs.contracts.account.Grants as grants
use Rattle.policy_model.specs.contracts.event.Ask as ask
use Rattle.policy_model.specs.contracts.event.Decision as decision
use Rattle.policy_model.specs.contracts.event.Event as event
use Rattle.request_catalogue.specs.contracts.width.Width as width
use Rattle.policy_model.specs.contracts.parts.SetupParts as parts
use Rattle.policy_model.specs.contracts.setup.Setup as setup
use Rattle.otp_hash.specs.contracts.seed.Seed as seed
use Rattle.session_table.specs.contracts.bits.Bits as bits
use Rattle.session_table.specs.contracts.handles.Handles as handles
use Rattle.policy_model.specs.contracts.texts.Text as text
use Rattle.policy_model.specs.contracts.texts.Numbers as numbers
use Rattle.otp_ledger.specs.contracts.ledger.Ledger as ledger
use Rattle.session_table.specs.contracts.rows.SessionRow as row
use Rattle.session_table.specs.contracts.table.Table as table
use Rattle.session_core.specs.contracts.whole.Core as core
use Rattle.outside.specs.declared.sink.Sink as Sink
use Rattle.monitor_book.specs.contracts.book.Book as book

decision_send : IsSend decision.the_row
decision_send = search sendable depth 40

ask_send : IsSend ask.the_row
ask_send = search sendable depth 60 fits 100000

event_send : IsSend event.the_row
event_send = declared_send event.the_type (search sendable, (search sendable, (ask_send, (decision_send, tt))))

text_send : IsSend text.the_row
text_send = search (sendable, crosses) depth 40

numbers_send : IsSend numbers.the_row
numbers_send = search (sendable, crosses) depth 40

grants_send : IsSend grants.the_row
grants_send = search (sendable, crosses) depth 40

account_send : IsSend account.the_row
account_send = search (sendable, grants_send) depth 40

accounts_send : IsSend accounts.the_row
accounts_send = search (sendable, crosses, account_send) depth 40

seed_send : IsSend seed.the_row
seed_send = search sendable depth 40

width_send : IsSend width.the_row
width_send = search sendable depth 40

parts_send : IsSend (parts.the_field).row
parts_send = struct_send (shape parts.the_type) (text_send, (text_send, (text_send, (text_send, (text_send, (search sendable depth 40, (search sendable depth 40, (search sendable, (search sendable, (search sendable, (search sendable, (search sendable, (numbers_send, (accounts_send, tt))))))))))))))

setup_send : IsSend setup.the_row
setup_send = search (sendable, parts_send) depth 40

ledger_send : IsSend ledger.the_row
ledger_send = search (sendable, crosses, setup_send) depth 40

bits_send : IsSend bits.the_row
bits_send = search sendable depth 40

handles_send : IsSend handles.the_row
handles_send = search (sendable, crosses) depth 40

row_send : IsSend row.the_row
row_send = search (sendable, bits_send, handles_send) depth 40

table_send : IsSend table.the_row
table_send = search (sendable, crosses, row_send) depth 40

core_send : IsSend core.the_row
core_send = search (sendable, crosses, ledger_send, table_send) depth 40

pub book_send : (K : RattleType) (sink : Sink.Ghosts K.Denot) → IsSend K → IsSend (book.the_row K sink)
book_send K sink sent = search (sendable, crosses, core_send, event_send) depth 40
