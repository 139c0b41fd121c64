use Rattle.std.proofs.Common.{◌≡◌, ◌∙◌, ap, List, rules, ltb, leb, true, false, subst, MatchOption, Bor}
use Rattle.std.proofs.lemmas.List.Sorted.{IsPartitionPoint-from_clause, IsPartitionedBy-ltb}
use Rattle.std.specs.List.Sorted.{IsPartitionPoint}
use Rattle.fields.specs.declared.numbers.spans.Interval.{Interval}
use Rattle.fields.specs.numbers.Spans.{SpanSet, AreSpansFrom, has}
use Rattle.fields.proofs.laws.numbers.SpanLaws.{ends_rise, searched}
use Rattle.fields.proofs.numbers.spans.Spans.has.Goals as goal

pub returns : goal.returns
returns c =
    let own : c.deref.result.now ≡ c.deref-2.result.now = cc in
    let all : c.deref-2.result.now ≡ c.args.self.now.intervals = c.deref-2.ensures ∙ ap (λ (s : SpanSet). s.intervals) c.self.view_is in
    let rise : AreSpansFrom c.self.inside.top 0 c.deref.result.now = rw c.deref.ensures c.self.invariant in
    let parted = IsPartitionedBy-ltb (λ (s : Interval). s.last) _ c.args.x (ends_rise _ _ _ rise) in
    let point = IsPartitionPoint-from_clause (λ (s : Interval). ltb s.last c.args.x) _ _ c.partition_point-place.ensures.partitioned parted (λ a r q k. search rules) in
    let P : List Interval → Type 0 = λ spans. IsPartitionPoint (λ (s : Interval). ltb s.last c.args.x ≡ true) (λ (s : Interval). ltb s.last c.args.x ≡ false) spans c.partition_point-place.result in
    let said : MatchOption c.get.result (c.is_some_and.result ≡ false) (λ (s : Bor Interval). c.is_some_and.result ≡ leb s.now.first c.args.x) = search rules in
    let found : c.is_some_and.result ≡ has c.deref-2.result.now c.args.x =
    searched c.self.inside.top c.args.x c.partition_point-place.result c.deref-2.result.now c.get.result c.is_some_and.result (subst (AreSpansFrom c.self.inside.top 0) own rise) (subst P own point)
    c.get.ensures.lookup.0 c.get.ensures.lookup.1 said in
    found ∙ ap (λ (spans : List Interval). has spans c.args.x) all
