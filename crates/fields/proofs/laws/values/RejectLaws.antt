-- A type is read from its text, and from no other.
use Rattle.std.proofs.Common.{◌≡◌, ℕ, List, Option, None, Some, refl, sym, ap, ◌∙◌}
use Rattle.std.specs.Prelude.{IfSome}
use Rattle.std.specs.Str.{bytes_eq}
use Rattle.std.proofs.lemmas.Slice.Eq.{bytes_eq-Decides}
use Rattle.fields.specs.values.RejectType.{reject_text, reject_of}
use Rattle.fields.specs.declared.values.reject.RejectType.{RejectType}
use Rattle.fields.specs.declared.values.reject.RejectType.TheVariants.{NetUnreachable, HostUnreachable, PortUnreachable, ProtoUnreachable, NetProhibited, HostProhibited, AdminProhibited, TcpReset}
use Rattle.fields.specs.declared.values.reject.TheConstants.RejectType.{ALL}
use Rattle.fields.proofs.laws.ListLaws.{find-is}

pub named : (text : List ℕ) (r : Option RejectType) → r ≡ reject_of text → IfSome r (λ answer. text ≡ reject_text answer)
named text None e = tt
named text (Some answer) e = sym ((bytes_eq-Decides (reject_text answer) text).0 (find-is (λ a. bytes_eq (reject_text a) text) ALL answer (sym e)))

reads_back : (answer : RejectType) → reject_of (reject_text answer) ≡ Some answer
reads_back NetUnreachable = refl
reads_back HostUnreachable = refl
reads_back PortUnreachable = refl
reads_back ProtoUnreachable = refl
reads_back NetProhibited = refl
reads_back HostProhibited = refl
reads_back AdminProhibited = refl
reads_back TcpReset = refl

pub reads_text : (text : List ℕ) (answer : RejectType) → text ≡ reject_text answer → reject_of text ≡ Some answer
reads_text text answer e = ap reject_of e ∙ reads_back answer
