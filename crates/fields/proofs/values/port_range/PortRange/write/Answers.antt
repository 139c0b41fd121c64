use Rattle.std.proofs.Common.{◌≡◌, ◌+◌, ◌-◌, arith, rules, drop, append-nil, [], ◌∷◌, ◌++◌, ap, sym, ne_eqb}
use Rattle.std.specs.Prelude.{decimal, if◌then◌else◌}
use Rattle.std.proofs.lemmas.Fmt.{length-decimal-le}
use Rattle.std.proofs.lemmas.List.{drop-set, drop_all}
use Rattle.fields.specs.values.PortRange.{Ports, ports_text}
use Rattle.fields.proofs.values.port_range.PortRange.write.Goals as goal

two-ports : (ports : Ports) → (ports.from ≡ ports.to → ⊥) → decimal ports.from ++ 58 ∷ decimal ports.to ≡ ports_text ports
two-ports ports differ = ap (λ b. if b then decimal ports.from else decimal ports.from ++ 58 ∷ decimal ports.to) (sym (ne_eqb ports.from ports.to differ))

pub write_digits-last-requires : goal.write_digits-last-requires
write_digits-last-requires c = (omega (arith, length-decimal-le 5 c.from.result (omega arith) (omega arith) (omega arith)), search rules)

pub overflow_sub-text : goal.overflow_sub-text
overflow_sub-text c = omega (arith, length-decimal-le 5 c.from.result (omega arith) (omega arith) (omega arith))

pub overflow_sub-last : goal.overflow_sub-last
overflow_sub-last c = omega (arith, length-decimal-le 5 c.from.result (omega arith) (omega arith) (omega arith))

pub write_digits-requires : goal.write_digits-requires
write_digits-requires c =
    let last = c.write_digits-last in
    let long = length-decimal-le 5 c.from.result (omega arith) (omega arith) (omega arith) in (
      omega (arith, length-decimal-le 5 c.from-2.result (omega arith) (omega arith) (omega arith)),
      search rules,
    )

pub returns-clause-written : goal.returns-clause-written
returns-clause-written c =
    let last = c.write_digits-last in
    let long = length-decimal-le 5 c.from.result (omega arith) (omega arith) (omega arith) in
    let e : last.result - 1 + 1 ≡ last.result = omega arith in
    let all : drop 11 c.args.text.now ≡ [] = drop_all 11 c.args.text.now (search rules) in
    rw (c.write_digits.ensures.written, drop-set last.new.buf (last.result - 1) 58 (omega arith), e, last.ensures.written, all, append-nil, c.from-2.ensures, c.from.ensures, ← c.self.view_is)
    (two-ports _ c.if-self.false)
