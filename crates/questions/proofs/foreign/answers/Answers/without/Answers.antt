use Rattle.std.proofs.Common.{rules, ◌≡◌, ◌≢◌, ◌++◌, ℕ, Bool, List, Option, None, ap, arith, refl, subst, sym, ◌∙◌, filter}
use Rattle.std.proofs.lemmas.Fn.{filter_same}
use Rattle.std.proofs.lemmas.List.{get_or_past}
use Rattle.questions.specs.declared.foreign.answers.Answer.{Answer}
use Rattle.questions.specs.steps.Answered.{AreIndexed, answer_in, answers_but, others_than}
use Rattle.questions.proofs.laws.NecessaryLaws.{index_less, set_none}
use Rattle.questions.proofs.foreign.answers.Answers.without.Goals.{After-retain, then-condition-len, else-condition-len}
use Rattle.questions.proofs.foreign.answers.Answers.without.Goals as goal

-- what is kept of the answers
kept : (c : After-retain) → c.retain.new.self.items ≡ answers_but c.args.condition c.self.inside.listed.items
kept c =
    let same : c.retain.new.self.items ≡ filter (others_than c.args.condition) c.extend_from_slice.new.self.items = filter_same _ _ _ (λ x b f' k. search rules) _ _ c.retain.ensures.filtered in
    let copied : c.extend_from_slice.new.self.items ≡ c.self.inside.listed.items = c.in_ok-extend_from_slice.ensures.items ∙ ap (λ (l : List Answer). l ++ c.as_slice.result.now) c.new-listed.ensures.items ∙ c.as_slice.ensures.value in
    same ∙ ap (answers_but c.args.condition) copied

pub invariant_of-result : goal.invariant_of-result
invariant_of-result c =
    let condition = c.args.condition in
    let copied : c.extend_from_slice-2.new.self.items ≡ c.self.inside.index.items = c.in_ok-extend_from_slice-2.ensures.items ∙ ap (λ (l : List (Option Bool)). l ++ c.as_slice-2.result.now) c.new-index.ensures.items ∙ c.as_slice-2.ensures.value in
    let are : AreIndexed c.extend_from_slice-2.new.self.items c.self.inside.listed.items = subst (λ (l : List (Option Bool)). AreIndexed l c.self.inside.listed.items) (sym copied) c.self.invariant in
    let index : List (Option Bool) = c.extend_from_slice-2.new.self.items in
    let is : c.retain.new.self.items ≡ answers_but condition c.self.inside.listed.items = kept (goal.at.invariant_of-result c).After-retain in
    let Indexed : List (Option Bool) → Type 0 = λ l. AreIndexed l c.retain.new.self.items in
    let of : (new : List (Option Bool)) → ((other : ℕ) → other ≢ condition → answer_in new other ≡ answer_in index other) → answer_in new condition ≡ None → Indexed new =
    λ new others none. subst (λ (l : List Answer). AreIndexed new l) (sym is) (index_less index new c.self.inside.listed.items condition are others none) in
    elim c.if-condition-len.branch [
      | then-condition-len w ↦ (let set = set_none index condition (omega (arith, w.if-condition-len.true, c.len.ensures)) in rw w.index-is (of _ set.0 set.1))
      | else-condition-len w ↦ rw w.index-is (of index (λ other apart. refl) (get_or_past index condition None (omega (arith, w.if-condition-len.false, c.len.ensures))))
    ]

pub returns : goal.returns
returns c = kept (goal.at.returns c).After-retain ∙ ap (answers_but c.args.condition) c.self.view_is
