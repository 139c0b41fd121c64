use mathlib.Core.List.{[]}
use base.Logic.{emp, id⊢}
use contract.Monad.{fact_i}
use contract.Lifetimes.{Lfts}
use borrow.Fn.Refines.{by_parts}
use Rattle.fields.specs.contracts.devices.fused_reader.FusedReaderBufRead.fill_buf as own
use Rattle.fields.proofs.laws.RestsLaws.{third-weaken}
use Rattle.fields.proofs.devices.fused_reader.FusedReaderBufRead.TheImpl.Goals as goal

pub fill_buf-meets : goal.fill_buf-meets
fill_buf-meets g c =
    let 𝓤 = g.world.𝓤 in let 𝓛 = g.world.𝓛 in let mem = g.world.𝓜.mem in let returns = g.world.𝓡.returns in let self = c.args.self in
    let κs : Lfts 2 = (c.lifetimes.0, (g.lifetime.n1, tt)) in
    by_parts 𝓤 [] [] (emp 𝓤) (emp 𝓤) _ _ (λ r e. []) (λ r e. [])
    (λ r e. (own.clauses 𝓛 mem returns κs (self, tt)).ensures tt r e) _
    (fact_i 𝓤 (Unit {0}) (emp 𝓤) tt) (λ a. id⊢ 𝓤 (emp 𝓤))
    (λ r e. fact_i 𝓤 (Unit {0}) ((own.clauses 𝓛 mem returns κs (self, tt)).ensures tt r e) tt)
    (λ r e a. third-weaken 𝓛 _ _ _ _ _ _ _ _ _
    (own.ensures-front 𝓛 κs mem returns self (record { entry = self; exit = e.0 }) r)
    (own.ensures-end 𝓛 κs mem returns self (record { entry = self; exit = e.0 }) r)
    (own.ensures-due 𝓛 κs mem returns self (record { entry = self; exit = e.0 }) r)
    (λ x h. h.0)) (λ a. a) (λ a r e b. b)
