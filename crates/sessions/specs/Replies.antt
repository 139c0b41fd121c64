-- What a session prints of the classifier of a chain (`lines CHAIN`), and of a packet: the rules that match it, in turn, and the verdict
-- (iptables(8), TARGETS).
use Rattle.std.specs.Prelude.{ℕ, ◌+◌, ◌-◌, ◌/◌, ◌%◌, ◌^◌, Bool, true, false, List, [], ◌∷◌, ◌++◌, map, flat_map, slice_index, codes, decimal}
use Rattle.std.specs.List.{join_with_byte, range_with_len}
use Rattle.fields.specs.declared.numbers.field.Field.{Field}
use Rattle.fields.specs.declared.numbers.field.Field.TheVariants.{Source, Destination, InIface, OutIface, SourcePort, DestinationPort, Protocol, Fragment, TcpFlags, IcmpType, ConnectionState, TimeToLive}
use Rattle.fields.specs.numbers.Field.{all_fields, name}
use Rattle.rules.specs.rule.Rules.{Rule}
use Rattle.classify.specs.Classifier.{lines_of}
use Rattle.fields.specs.Packet.{PacketView as Packet}
use Rattle.fields.specs.values.RejectType.{reject_text}
use Rattle.table.specs.chains.Table.{Table, chain_at}
use Rattle.table.specs.walk.Walk.{Entry, Walked, walk}
use Rattle.table.specs.declared.verdict.Verdict.{Verdict}
use Rattle.table.specs.declared.verdict.Verdict.TheVariants.{Accept, Drop, Reject, TooLong}
use Rattle.table.specs.declared.walk.trail.Step.{Step}
use Rattle.table.specs.declared.walk.trail.Trail.{Trail}

-- ---- What a session prints of the classifier of a chain (`lines CHAIN`).

-- the hexadecimal digit of a number at one of 32 places, the highest first
abbrev pub digit_at : ℕ → ℕ → ℕ
digit_at n place = slice_index (codes "0123456789abcdef") (n / 16 ^ (31 - place) % 16)

-- a number below 2 to the 128 as 32 hexadecimal digits, the highest first
unfoldable pub hexadecimal : ℕ → List ℕ
hexadecimal n = map (digit_at n) (range_with_len 0 32)

-- where a piece starts: hexadecimal for interfaces, else decimal
abbrev pub start_text : Field → ℕ → List ℕ
start_text InIface n = hexadecimal n
start_text OutIface n = hexadecimal n
start_text Source n = decimal n
start_text Destination n = decimal n
start_text SourcePort n = decimal n
start_text DestinationPort n = decimal n
start_text Protocol n = decimal n
start_text Fragment n = decimal n
start_text TcpFlags n = decimal n
start_text IcmpType n = decimal n
start_text ConnectionState n = decimal n
start_text TimeToLive n = decimal n

-- the numbers of the rules that allow the piece, where the first of these answers is that of rule n
abbrev pub numbers_from : ℕ → List Bool → List ℕ
numbers_from n [] = []
numbers_from n (true ∷ answers) = n ∷ numbers_from (n + 1) answers
numbers_from n (false ∷ answers) = numbers_from (n + 1) answers

-- the numbers of the rules that allow the piece, counted from 1, with a comma (44) between two
abbrev pub numbers_text : List Bool → List ℕ
numbers_text answers = join_with_byte 44 (map decimal (numbers_from 1 answers))

-- a piece, for example ` 22:{1,2}`: where it starts, and the rules that allow it
abbrev pub piece_text : Field → ℕ × List Bool → List ℕ
piece_text field piece = codes " " ++ (start_text field piece.0 ++ (codes ":{" ++ (numbers_text piece.1 ++ codes "}")))

-- the field's name, and its pieces
abbrev pub line_text : Field → List (ℕ × List Bool) → List ℕ
line_text field pieces = name field ++ (flat_map (piece_text field) pieces ++ codes "\n")

-- the line of a field
abbrev pub field_line : List Rule → Field → List ℕ
field_line rules field = line_text field (lines_of rules field)

-- for each field a line with its name and, for each piece in rising order, the number at which it starts and the rules that allow
-- it
unfoldable pub lines_reply : List Rule → List ℕ
lines_reply rules = flat_map (field_line rules) all_fields

-- ---- What a session prints of a packet: the rules that match it, in turn, and the verdict (iptables(8), TARGETS).

-- an entry of the trail, for example `INPUT 1`
abbrev pub entry_line : Entry → List ℕ
entry_line e = e.chain ++ (codes " " ++ (decimal e.number ++ codes "\n"))

-- whether the policy or a rule decided
abbrev pub cause_text : Bool → List ℕ
cause_text true = codes " by policy\n"
cause_text false = codes " by rule\n"

-- the verdict, for example `ACCEPT by rule`
abbrev pub verdict_text : Verdict → Bool → List ℕ
verdict_text Accept by_policy = codes "ACCEPT" ++ cause_text by_policy
verdict_text Drop by_policy = codes "DROP" ++ cause_text by_policy
verdict_text (Reject kind) by_policy = codes "REJECT " ++ (reject_text kind ++ cause_text by_policy)
verdict_text TooLong by_policy = codes "TOOLONG\n"

-- its line, for example `verdict ACCEPT by rule`
abbrev pub verdict_line : Verdict → Bool → List ℕ
verdict_line v by_policy = codes "verdict " ++ verdict_text v by_policy

-- a line for each entry of the trail, then the verdict
abbrev pub walked_text : Walked → List ℕ
walked_text w = flat_map entry_line w.trail ++ verdict_line w.verdict w.by_policy

-- what is printed of a packet: a line for each entry of its walk through the table, then the verdict and whether a rule or the
-- policy gave it
unfoldable pub packet_reply : Table → Packet → List ℕ
packet_reply t packet = walked_text (walk t packet)

-- ---- The trail of a packet as the code prints it, also a trail that another table gave.

-- the entry for which a step of a trail stands; its chain has no name where the table has no chain at that place
abbrev pub entry_at : Table → Step → Entry
entry_at t step = record { chain = (chain_at t step.chain).name; number = step.number }

-- a line for each step of a trail
abbrev pub steps_text : Table → List Step → List ℕ
steps_text t steps = flat_map (λ step. entry_line (entry_at t step)) steps

-- what is printed of any trail: a line for each step, with the name that the chain at its place has now, and then the verdict
abbrev pub trail_text : Table → Trail → List ℕ
trail_text t trail = steps_text t trail.steps.items ++ verdict_line trail.verdict trail.by_policy

-- the numbers of the rules that allow a piece, each after a comma (44), where the first of these answers is that of rule n
abbrev pub further_numbers : ℕ → List Bool → List ℕ
further_numbers n answers = flat_map (λ number. 44 ∷ decimal number) (numbers_from n answers)
