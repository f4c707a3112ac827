-- Believed: what a form says of a card.
use Rattle.std.specs.Prelude.{ℕ, ◌^◌, ◌<◌, List, take}
use Rattle.std.specs.Fmt.{decimal}
use Rattle.std.specs.List.{flat_map}
use Rattle.otp_hash.specs.Names.{algo_name}
use Rattle.request_catalogue.specs.TextBytes.{name_bytes}
use Rattle.info_hooks.specs.declared.card.Card.{Card}
use Rattle.info_hooks.specs.declared.form.Form.{Form}
use Rattle.info_hooks.specs.declared.form.Piece.{Piece}
use Rattle.info_hooks.specs.declared.form.Piece.TheVariants as pieces
use Rattle.info_hooks.specs.Texts.{short_bytes}

-- the numbers of a card are within their types
pub record IsCard (card : Card) : Type 0 where
  pub uid : card.uid < 2 ^ 32
  pub sequence : card.sequence < 2 ^ 16

-- the text of a piece: fixed, or the user's name, number, algorithm or sequence
abbrev pub piece_text : Card → Piece → List ℕ
piece_text card (pieces.Fixed short) = short_bytes short
piece_text card pieces.Name = name_bytes card.name
piece_text card pieces.Uid = decimal card.uid
piece_text card pieces.Algo = algo_name card.algo
piece_text card pieces.Sequence = decimal card.sequence

-- what a form says of a card: the texts of its pieces, one after the other
unfoldable pub said : Form → Card → List ℕ
said form card = flat_map (piece_text card) (take form.len form.pieces)
