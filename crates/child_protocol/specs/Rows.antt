-- Inner: a dialogue in full.
use Rattle.std.specs.Prelude.{◌≡◌, List, [], ◌∷◌, ◌++◌, Some, None, codes}
use Rattle.request_catalogue.specs.Catalogue.{Banner, Reply, Export, ReadAt, CloseFile, Finish, Import}
use Rattle.request_catalogue.specs.Replies.{AnswerValue, Done, Denied, Device}
use Rattle.state_export.specs.Spelling.{state_bytes}
use Rattle.child_protocol.specs.Pre.{say, read_more}
use Rattle.child_protocol.specs.Says.{Role, Pre, User, says}

abbrev pub told : AnswerValue
told = Done []

abbrev pub logs_in : List AnswerValue
logs_in = Done (codes "OTP login") ∷ told ∷ Done (codes "term xterm\r\nuser an") ∷ told
    ∷ Done (codes "na\nresp ONE TWO\nquit\n") ∷ Done (codes "otp-md5 99 dog\n") ∷ told ∷ []

abbrev pub quits : List AnswerValue
quits = Done (codes "bye") ∷ told ∷ Done (codes "hello\nquit\n") ∷ told ∷ told ∷ told ∷ []

pub record IsPreDialogue : Type 0 where
  pub begins : says Pre [] ≡ Some Banner
  pub greets : says Pre (Done (codes "OTP login") ∷ []) ≡ Some (say (codes "OTP login\n"))
  pub reads : says Pre (Done (codes "OTP login") ∷ told ∷ []) ≡ Some read_more
  pub replies : says Pre logs_in ≡ Some (Reply (codes "ONE TWO"))
  pub exports : says Pre (logs_in ++ told ∷ [])
      ≡ Some
      (Export (state_bytes (record { terminal = codes "xterm"; unread = codes "quit\n"; lines = 3; bytes = 40 })))
  pub goes_on : says Pre (logs_in ++ Denied 16 0 ∷ []) ≡ Some (say (codes "denied 16\n"))
  pub says_bye : says Pre (logs_in ++ Denied 16 0 ∷ told ∷ []) ≡ Some (say (codes "bye\n"))
  pub answers_what : says Pre (Done (codes "bye") ∷ told ∷ Done (codes "hello\nquit\n") ∷ [])
      ≡ Some (say (codes "what\n"))
  pub finishes : says Pre (Done (codes "bye") ∷ told ∷ Done (codes "hello\nquit\n") ∷ told ∷ told ∷ []) ≡ Some Finish
  pub ends : says Pre quits ≡ None
  pub ends_at_a_violation : says Pre (Denied 1 16 ∷ []) ≡ None

abbrev pub ann : Role
ann = User (record { uid = 7; name = codes "ann" })

abbrev pub gets : List AnswerValue
gets =
    Done
    (7 ∷ 0 ∷ 0 ∷ 0 ∷ 3
    ∷ (codes "ann" ++ state_bytes (record { terminal = []; unread = codes "get a\n"; lines = 3; bytes = 40 }))) ∷ told
    ∷ Done (1 ∷ 0 ∷ 0 ∷ 0 ∷ []) ∷ []

pub record IsUserDialogue : Type 0 where
  pub begins : says ann [] ≡ Some Import
  pub reads_the_file : says ann gets ≡ Some (ReadAt 1 0 4000)
  pub closes : says ann (gets ++ Done (codes "hi") ∷ []) ≡ Some (CloseFile 1)
  pub tells : says ann (gets ++ Done (codes "hi") ∷ told ∷ []) ≡ Some (say (codes "size 2\nhi"))
  pub faults : says ann (gets ++ Device 2 ∷ told ∷ []) ≡ Some (say (codes "fault 2\n"))
