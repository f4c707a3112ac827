-- Believed: the words of a line, by tables.
use Rattle.std.specs.Prelude.{ℕ, List, [], ◌∷◌, codes}
use Rattle.decision_log.specs.declared.words.AskWord.{AskWord}
use Rattle.decision_log.specs.declared.words.AskWord.TheVariants as asks
use Rattle.decision_log.specs.declared.words.DecisionWord.{DecisionWord}
use Rattle.decision_log.specs.declared.words.DecisionWord.TheVariants as decisions
use Rattle.decision_log.specs.declared.words.WhyWord.{WhyWord}
use Rattle.decision_log.specs.declared.words.WhyWord.TheVariants as whys

-- the word that an ask begins with
unfoldable pub ask_word : AskWord → List ℕ
ask_word asks.Open = codes "open"
ask_word asks.Banner = codes "banner"
ask_word asks.Challenge = codes "challenge"
ask_word asks.Reply = codes "reply"
ask_word asks.Abandon = codes "abandon"
ask_word asks.Export = codes "export"
ask_word asks.Import = codes "import"
ask_word asks.Read = codes "read"
ask_word asks.Write = codes "write"
ask_word asks.Grant = codes "grant"
ask_word asks.Close = codes "close"
ask_word asks.Info = codes "info"
ask_word asks.Note = codes "note"
ask_word asks.Finish = codes "finish"
ask_word asks.Bad = codes "bad"
ask_word asks.End = codes "end"

-- the kinds of asks that a log shows
unfoldable pub ask_words : List AskWord
ask_words = asks.Open ∷ asks.Banner ∷ asks.Challenge ∷ asks.Reply ∷ asks.Abandon ∷ asks.Export ∷ asks.Import ∷ asks.Read
    ∷ asks.Write ∷ asks.Grant ∷ asks.Close ∷ asks.Info ∷ asks.Note ∷ asks.Finish ∷ asks.Bad ∷ asks.End ∷ []

-- the word that a decision begins with
unfoldable pub decision_word : DecisionWord → List ℕ
decision_word decisions.Permit = codes "permit"
decision_word decisions.Deny = codes "deny"

-- the kinds of decisions that a log shows
unfoldable pub decision_words : List DecisionWord
decision_words = decisions.Permit ∷ decisions.Deny ∷ []

-- the word for a reason, after `end`
unfoldable pub why_word : WhyWord → List ℕ
why_word whys.Finished = codes "finished"
why_word whys.ChildEnded = codes "child-ended"
why_word whys.Truncated = codes "truncated"
why_word whys.BadFrame = codes "bad-frame"
why_word whys.Violation = codes "violation"
why_word whys.LinkFault = codes "link-fault"
why_word whys.KeeperFault = codes "keeper-fault"
why_word whys.LogLost = codes "log-lost"

-- the kinds of reasons for an end
unfoldable pub why_words : List WhyWord
why_words = whys.Finished ∷ whys.ChildEnded ∷ whys.Truncated ∷ whys.BadFrame ∷ whys.Violation ∷ whys.LinkFault
    ∷ whys.KeeperFault ∷ whys.LogLost ∷ []
