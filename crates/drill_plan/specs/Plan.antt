-- Inner: the bytes that the children of a drill send.
use Rattle.std.specs.Prelude.{ℕ, List, [], ◌++◌, map, take}
use Rattle.std.specs.List.{flat_map, range_with_len}
use Rattle.imsg_frame.specs.Message.{spelling_of}
use Rattle.imsg_frame.specs.Requests.{request_message}
use Rattle.request_catalogue.specs.declared.width.Width.TheVariants.{Narrow}
use Rattle.request_catalogue.specs.Catalogue.{RequestValue, Finish}
use Rattle.drill_plan.specs.declared.class.Class.{Class}
use Rattle.drill_plan.specs.declared.class.Class.TheVariants.{BreaksOff}
use Rattle.drill_plan.specs.Classes.{class_of}
use Rattle.drill_plan.specs.Passwords.{current_password, own_name, right_password, session_count}
use Rattle.drill_plan.specs.Requests.{early_requests_by, user_requests}

-- the bytes of a request, in a narrow frame
abbrev pub request_bytes : RequestValue → List ℕ
request_bytes request = spelling_of Narrow (request_message request)

abbrev pub requests_bytes : List RequestValue → List ℕ
requests_bytes requests = flat_map request_bytes requests

-- where a child breaks off: 7 bytes of a header
abbrev pub broken_header : Class → List ℕ
broken_header BreaksOff = take 7 (request_bytes Finish)
broken_header _ = []

-- what the child before the login sends in a session of this class, for this user with these passwords
abbrev pub early_bytes_by : List ℕ → ℕ → ℕ → Class → List ℕ
early_bytes_by user current right class =
    requests_bytes (early_requests_by user current right class) ++ broken_header class

-- what the children of a worker's session have to send: the one before the login, and the user's
abbrev pub session_bytes : ℕ → ℕ → ℕ → List ℕ × List ℕ
session_bytes n worker session = (
  early_bytes_by (own_name worker) (current_password n worker session) (right_password n worker session)
      (class_of n worker session),
  requests_bytes (user_requests n worker session),
)

-- what those of each of a worker's connections have to send
abbrev pub drill_plan : ℕ → ℕ → List (List ℕ × List ℕ)
drill_plan n worker = map (session_bytes n worker) (range_with_len 0 (session_count n))
