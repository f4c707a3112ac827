-- Inner: a user's session that comes to log in, is welcomed and is served files, and the run that it is of.
use Rattle.std.specs.Prelude.{◌≡◌, ℕ, List, [], ◌∷◌, length, map, slice_get, Some, IfSome}
use Rattle.std.specs.List.{AllByRecursion}
use Rattle.outside_memory.specs.declared.post.MemPost.{MemPost}
use Rattle.outside_memory.specs.declared.script.Script.{Script}
use Rattle.outside.specs.Scene.{IsFresh}
use Rattle.outside_memory.specs.MemPost.{faults_of, scene_of}
use Rattle.policy_model.specs.declared.account.Account.{Account}
use Rattle.policy_model.specs.declared.event.Event.{Event}
use Rattle.policy_model.specs.Settings.{IsInRange, Settings}
use Rattle.service_model.specs.Service.{Service}
use Rattle.service_model.specs.Sittings.{AreAnswered, AreSittingsOf, Sitting}
use Rattle.monitor_run.specs.Headline.{ConversationsMatch, JournalIsLegal}
use Rattle.monitor_run.specs.Posts.{seen}
use Rattle.welcome_laws.specs.Files.{AreServed, AsksForFiles}
use Rattle.welcome_laws.specs.Welcome.{ComesToLogIn, IsWelcomed}
use Rattle.welcome_rows.specs.declared.serving.Visit.{Visit}
use Rattle.welcome_rows.specs.Met.{wishes_of}

-- the service of a setup and of words, without any information
abbrev pub service_by : Settings → List (List ℕ) → Service
service_by setup words = record { setup = setup; words = words; forms = [] }

-- the one session of a worker comes to log in by a visit's response, so it is welcomed; it asks for the files that the
-- visit wants, so it is served them
pub record GetsIn (service : Service) (journal : List Event) (worker : ℕ) (visit : Visit) : Type 0 where
  pub account : Account
  pub sitting : Sitting
  pub alone : AreSittingsOf service journal worker (sitting ∷ [])
  pub answered : AllByRecursion (λ s. AreAnswered service [] s.parts) (sitting ∷ [])
  pub comes : ComesToLogIn service journal visit.user account visit.response sitting
  pub welcomed : IsWelcomed journal visit.user account sitting
  pub asks : AsksForFiles service journal visit.user account visit.response sitting comes
      (wishes_of visit.wants_files)
  pub served : AreServed account (wishes_of visit.wants_files) sitting

-- ---- the run

-- what the children of a script have to send: the one before the login, and the user's
abbrev pub planned : Script → List ℕ × List ℕ
planned script = (script.pre, script.user)

-- a post of which nothing was asked, to which one connection comes, of this script
pub record IsNewPost (script : Script) (post : MemPost) : Type 0 where
  pub scene : scene_of post ≡ Some (record { acts = []; talks = []; unread = []; plan = planned script ∷ [] })
  pub fresh : IsFresh scene_of faults_of post

-- each post is that of the visit at its place
pub record AreNewPosts (visits : List Visit) (posts : List MemPost) : Type 0 where
  pub count : length posts ≡ length visits
  pub each : (worker : ℕ) (visit : Visit) (post : MemPost) → slice_get visits worker ≡ Some visit
      → slice_get posts worker ≡ Some post → IsNewPost visit.script post

-- what is known of a run by such posts: it keeps its promises, and each post goes by the script of its visit
pub record HasServed (service : Service) (visits : List Visit) (journal : List Event) (posts : List MemPost)
    : Type 0 where
  pub in_range : IsInRange service.setup
  pub legal : JournalIsLegal service.setup journal
  pub conversations : ConversationsMatch service journal (map (seen scene_of faults_of) posts)
  pub plans : (worker : ℕ) (visit : Visit) (post : MemPost) → slice_get visits worker ≡ Some visit
      → slice_get posts worker ≡ Some post → IfSome (scene_of post) (λ s. s.plan ≡ planned visit.script ∷ [])
