-- How the code's answer to a line stands for the reply that the definition gives.
use Rattle.std.specs.Prelude.{◌≡◌, ℕ, ◌<◌, Bool, List, [], length, option_map, Option, Some, None, Result, Ok, Err}
use Rattle.fields.specs.Packet.{PacketView}
use Rattle.table.specs.chains.Table.{Table, TableView, chain_at}
use Rattle.table.specs.walk.Walk.{walk, Shows}
use Rattle.table.specs.declared.walk.trail.Trail.{Trail}
use Rattle.restore.specs.Listing.{listing, rules_listing}
use Rattle.sessions.specs.line.Fault.{Fault}
use Rattle.sessions.specs.line.Outcome.{Reply, Says, Fails, Mode, Outcome, outcome}
use Rattle.sessions.specs.Replies.{packet_reply, lines_reply}
use Rattle.sessions.specs.declared.reply.answer.Answer.{Answer}
use Rattle.sessions.specs.declared.reply.answer.Answer.TheVariants as answers
use Rattle.sessions.specs.declared.line.outcome.Outcome as made

-- a place, if one is given, is that of a chain
abbrev pub IsIndex : Table → Option ℕ → Type 0
IsIndex t None = Unit {0}
IsIndex t (Some place) = place < length t.chains

-- the chain that is to be printed is there
abbrev pub HasChain : Table → Result Answer Fault → Type 0
HasChain t (Ok answers.Nothing) = Unit {0}
HasChain t (Ok (answers.Rules place)) = IsIndex t place
HasChain t (Ok answers.Listing) = Unit {0}
HasChain t (Ok (answers.Walk trail)) = Unit {0}
HasChain t (Ok (answers.Lines place)) = place < length t.chains
HasChain t (Err fault) = Unit {0}

-- the name of the chain at a place, if one is given
abbrev pub name_at : Table → Option ℕ → Option (List ℕ)
name_at t place = option_map (λ k. (chain_at t k).name) place

-- the reply for which the code's answer or fault stands, by the place of a chain or the trail
abbrev pub IsReply : Table → Result Answer Fault → Reply → Type 0
IsReply t (Ok answers.Nothing) said = said ≡ Says []
IsReply t (Ok (answers.Rules place)) said = said ≡ Says (rules_listing t (name_at t place))
IsReply t (Ok answers.Listing) said = said ≡ Says (listing t)
IsReply t (Ok (answers.Walk trail)) said = (packet : PacketView) × Shows t.chains (walk t packet) trail × (said ≡ Says (packet_reply t packet))
IsReply t (Ok (answers.Lines place)) said = said ≡ Says (lines_reply (chain_at t place).rules)
IsReply t (Err fault) said = said ≡ Fails fault

-- where the answer is a trail, this fact of it
abbrev pub OnTrail : Result Answer Fault → (Trail → Type 0) → Type 0
OnTrail (Ok answers.Nothing) P = Unit {0}
OnTrail (Ok (answers.Rules place)) P = Unit {0}
OnTrail (Ok answers.Listing) P = Unit {0}
OnTrail (Ok (answers.Walk trail)) P = P trail
OnTrail (Ok (answers.Lines place)) P = Unit {0}
OnTrail (Err fault) P = Unit {0}

-- what the code did is this outcome
pub record IsOutcome (said : Outcome) (new : TableView) (t : made.Outcome) : Type 0 where
  pub table : said.table ≡ new.table
  pub mode : said.mode ≡ t.mode
  pub reply : IsReply new.table t.reply said.reply
  pub place : HasChain new.table t.reply

-- what the code did is the outcome of the line, for some mark
abbrev pub IsOutcomeOf : List ℕ → Mode → TableView → TableView → made.Outcome → Type 0
IsOutcomeOf text mode old new t = (refused : Bool) × IsOutcome (outcome old.table mode (record { text = text; refused = refused })) new t
