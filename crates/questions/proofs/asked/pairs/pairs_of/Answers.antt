use Rattle.std.proofs.Common.{◌≡◌, inl, inr, ℕ, false, [], sym, ◌∙◌, arith, true≢false}
use Rattle.std.proofs.lemmas.Bool.{cases_lt}
use Rattle.std.proofs.lemmas.List.Elements.{All-push}
use Rattle.table.specs.chains.Table.{empty_chain}
use Rattle.table.proofs.laws.chains.PlaceLaws.{IsPlaced, placed_at, placed_nowhere}
use Rattle.questions.specs.Foreign.{Assignment}
use Rattle.questions.specs.Scopes.{answered, table_of, whole_of}
use Rattle.questions.specs.asked.Changes.{IsPairOf}
use Rattle.questions.specs.declared.asked.pairs.Pair.{Pair}
use Rattle.questions.specs.declared.asked.pairs.Places.{Places}
use Rattle.questions.specs.steps.Shared.{AreThere, IsPaired}
use Rattle.questions.proofs.laws.SharedLaws.{among_more, among_new, paired_left}
use Rattle.questions.proofs.asked.pairs.pairs_of.Goals as goal
use Rattle.questions.proofs.asked.pairs.pairs_of.Goals.{in-Some+in_ok-pair_of+in_ok-push, in_default}

pub loop-place-preserved : goal.loop-place-preserved
loop-place-preserved c =
    let s = c.args.old.now in
    let other = c.args.new.now in
    let place : ℕ = c.loop-place.place in
    let Paired : Pair → Type 0 = λ pair. (a : Assignment) → IsPaired (answered s a) (answered other a) pair in
    elim c.match-index_of.branch [
      | in-Some+in_ok-pair_of+in_ok-push w ↦ (
          let placed : IsPlaced (table_of other) c.chain_name.result.now w.in-Some.other = placed_at (table_of other) c.chain_name.result.now w.in-Some.other (sym c.index_of.ensures ∙ w.in-Some.is) in
          let chains : Places = record { old = c.loop-place.place; new = w.in-Some.other } in
          let there : AreThere (table_of s) (table_of other) chains = record { first = omega (arith, c.loop-place-test.true, c.chain_count-place-end.ensures); second = placed.within } in
          let pair : Pair = w.in_ok-pair_of.field-0 in
          rw (w.pairs-is, w.in_ok-push.ensures.items) (record {
            paired = All-push Paired c.loop-place.pairs.items pair c.loop-place.invariant.paired
                (paired_left s other chains pair c.stands.ensures.sound c.stands-2.ensures.sound there (placed.named (empty_chain []) ∙ c.chain_name.ensures) w.in_ok-pair_of.ensures.beside);
            aligned = All-push (IsPairOf (whole_of s) (whole_of other)) c.loop-place.pairs.items pair c.loop-place.invariant.aligned
                (record { chains = chains; there = there; named = placed.named (empty_chain []) ∙ c.chain_name.ensures; place = (w.in_ok-pair_of.ensures.beside (λ _. false)).place; aligned = w.in_ok-pair_of.ensures.aligned });
            all = λ k lt has. elim (cases_lt k place) [
              | inl before ↦ among_more c.loop-place.pairs.items pair k (c.loop-place.invariant.all k before has)
              | inr past ↦ (let same : place ≡ k = omega (arith, lt, past) in among_new c.loop-place.pairs.items pair k ((w.in_ok-pair_of.ensures.beside (λ _. false)).place ∙ same))
            ];
          }))
      | in_default w ↦ rw w.pairs-is (record {
        paired = c.loop-place.invariant.paired;
        aligned = c.loop-place.invariant.aligned;
        all = λ k lt has. elim (cases_lt k place) [
          | inl before ↦ c.loop-place.invariant.all k before has
          | inr past ↦ (
              let same : place ≡ k = omega (arith, lt, past) in
              let nowhere = placed_nowhere (table_of other) c.chain_name.result.now (sym c.index_of.ensures ∙ w.in_default.is) in
              absurd (true≢false (sym (rw (← c.chain_name.ensures) at (rw (← same) at has)) ∙ nowhere)))
        ];
      })
    ]

pub returns-clause-paired : goal.returns-clause-paired
returns-clause-paired c = c.loop-place.invariant.paired

pub returns-clause-aligned : goal.returns-clause-aligned
returns-clause-aligned c = c.loop-place.invariant.aligned

pub returns-clause-all : goal.returns-clause-all
returns-clause-all c = λ place lt has. c.loop-place.invariant.all place (omega (arith, lt, c.loop-place-test.false, c.chain_count-place-end.ensures)) has
