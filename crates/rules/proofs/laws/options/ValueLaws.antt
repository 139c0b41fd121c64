-- A value that was read is good: its text gives it back.
use Rattle.std.proofs.Common.{◌≡◌, ℕ, ◌+◌, ◌*◌, ◌<◌, ◌≤◌, ◌==◌, Bool, true, false, cond, ◌&&◌, List, [], ◌∷◌, length, Option, None, Some, refl, sym, ap, subst, ◌∙◌, arith, append-nil, length-append, le-ltb}
use Rattle.fields.proofs.laws.PacketLaws.{interface_is_text}
use Rattle.rules.proofs.laws.printing.TextLaws.{word-more}
use Rattle.std.specs.Prelude.{Result, Ok, Err, nat_lt}
use Rattle.fields.specs.Sequence as options
use Rattle.fields.specs.values.ConnectionState.{ctstate_of, state_of, states_text}
use Rattle.fields.specs.values.TcpFlags.{flag_test_of, tcp_flags_of, tcp_flags_text}
use Rattle.fields.specs.values.Icmp.{icmp_of, icmp_text}
use Rattle.fields.specs.values.Interface.{interface_of}
use Rattle.fields.specs.values.IpRange.{ip_range_of, ip_range_text}
use Rattle.fields.specs.values.LogLevel.{log_level_of, log_level_text}
use Rattle.fields.specs.values.PortList.{port_list_of, port_list_text}
use Rattle.fields.specs.values.PortRange.{port_range_of, ports_text}
use Rattle.fields.specs.values.Prefix.{prefix_of, prefix_text}
use Rattle.fields.specs.text.Line.{IsOneLine}
use Rattle.fields.specs.text.Printed.{bare, as_text, spaced, spaced_all, ArePrintable}
use Rattle.fields.specs.values.Protocol.{protocol_of, protocol_text}
use Rattle.fields.specs.values.RejectType.{reject_of, reject_text}
use Rattle.fields.specs.values.FreeText.{text_of}
use Rattle.fields.specs.values.Ttl.{ttl_of, ttl_text}
use Rattle.fields.specs.declared.values.flag_test.FlagTest.{FlagTest}
use Rattle.fields.proofs.laws.values.ConnectionStateLaws.{are_states, ctstate_reads_back, state_reads_back}
use Rattle.fields.proofs.laws.text.CutLaws.{step_before, same_some}
use Rattle.fields.proofs.laws.values.IcmpLaws as icmp
use Rattle.fields.proofs.laws.values.IcmpLaws.{is_asked}
use Rattle.fields.proofs.laws.values.PrefixLaws as range
use Rattle.fields.proofs.laws.values.LogLevelLaws as level
use Rattle.fields.proofs.laws.values.PortListLaws as list
use Rattle.fields.proofs.laws.values.PortListLaws.{port_list_of-is}
use Rattle.fields.proofs.laws.values.PortRangeLaws.{port_range_of-ports_text}
use Rattle.fields.proofs.laws.values.PrefixLaws.{prefix_of-prefix_text}
use Rattle.fields.proofs.laws.values.ProtocolLaws.{protocol_of-protocol_text}
use Rattle.fields.proofs.laws.values.RejectLaws.{reads_text}
use Rattle.fields.proofs.laws.values.TcpFlagsLaws as flags
use Rattle.fields.proofs.laws.values.TcpFlagsLaws.{known}
use Rattle.fields.proofs.laws.values.TtlLaws as ttl
use Rattle.rules.specs.Sequence.{◌>>=◌, or_refused}
use Rattle.rules.specs.options.Options.{first_of, may_be_inverted, owner, slot}
use Rattle.rules.specs.options.OptionValues.{option_of_value, read_as, text_as, text_within, with_opposite, value_of}
use Rattle.rules.specs.Printing.{one, shown_value}
use Rattle.rules.specs.declared.reading.fault.Refusal.{Refusal}
use Rattle.rules.specs.declared.reading.fault.Refusal.TheVariants as refusal
use Rattle.rules.specs.declared.options.option.Opt.{Opt}
use Rattle.rules.specs.declared.options.option.Opt.TheVariants as opt
use Rattle.rules.specs.declared.options.value.Value.{Value}
use Rattle.rules.specs.declared.options.value.Value.TheVariants as value
use Rattle.rules.proofs.laws.reading.Readable.{value_room}
use Rattle.rules.proofs.laws.options.TableLaws.{plain}
use Rattle.rules.proofs.laws.options.WordForms.{IsWord, prefix-valid, prefix-word, interface-word, protocol-valid, protocol-word, ports-valid, ports-word, list-word, flags-word, states-word, state-valid, icmp-word, range-valid, range-word, reject-word, level-word, ttl-word, text-valid, quoted-short}

-- a value that an option was given stands where the option stands, and its text gives it back
pub record IsGood (o : Opt) (inverted : Bool) (v : Value) : Type 0 where
  pub place : slot (option_of_value v) ≡ slot o
  pub owned : owner (option_of_value v) ≡ owner o
  pub bang : may_be_inverted o ≡ true → may_be_inverted (option_of_value v) ≡ true
  pub text : value_of (option_of_value v) inverted (plain (shown_value v)) ≡ Ok v
  pub spelled : ArePrintable (shown_value v)
  pub short : length (spaced_all (shown_value v)) ≤ value_room (option_of_value v)

-- what was read, where something was
given : {X : Type 0} (e : Refusal) (make : X → Value) (q : Option X) (v : Value) → (or_refused e q >>= λ x. Ok (make x)) ≡ Ok v → (x : X) × (q ≡ Some x) × (make x ≡ v)
given e make None v h = absurd (cc)
given e make (Some x) v h = (x, refl, same (make x) h)
  where
    same : (w : Value) → ◌≡◌ {A = Result Value Refusal} (Ok w) (Ok v) → w ≡ v
    same w h = cc

same-value : (w v : Value) → ◌≡◌ {A = Result Value Refusal} (Ok w) (Ok v) → w ≡ v
same-value w v h = cc

-- lines of one and of two words
none-spelled : ArePrintable []
none-spelled k d within = absurd (omega arith)

one-spelled : (most : ℕ) (text : List ℕ) → IsWord most text → ArePrintable (one text)
one-spelled most text is = word-more (bare text) [] is.bare none-spelled

one-short : (most : ℕ) (text : List ℕ) → IsWord most text → length (spaced_all (one text)) ≤ most + 1
one-short most text is = let short = is.short in let whole = ap length (append-nil (spaced (bare text))) in omega (arith, whole)

text-spelled : (text : List ℕ) → IsOneLine text → ArePrintable (as_text text ∷ [])
text-spelled text one = word-more (as_text text) [] one none-spelled

text-short : (most : ℕ) (text : List ℕ) → length text ≤ most → length (spaced_all (as_text text ∷ [])) ≤ 2 * most + 3
text-short most text few = let short = quoted-short text in let whole = ap length (append-nil (spaced (as_text text))) in omega (arith, whole)

-- a text that was read, and one that reads
text-given : (most : ℕ) (make : List ℕ → Value) (bytes : List ℕ) (v : Value) → text_as make (text_within most bytes) ≡ Ok v → (x : List ℕ) × (text_of most bytes ≡ Some x) × (make x ≡ v)
text-given most make bytes v e = go (nat_lt most (length bytes)) e
  where
    go : (b : Bool) → text_as make (cond b (Err refusal.TextTooLong) (or_refused refusal.BadValue (text_of most bytes))) ≡ Ok v → (x : List ℕ) × (text_of most bytes ≡ Some x) × (make x ≡ v)
    go true h = absurd (cc)
    go false h = given refusal.BadValue make (text_of most bytes) v h

text-within : (most : ℕ) (text : List ℕ) → length text ≤ most → text_of most text ≡ Some text → text_within most text ≡ Ok text
text-within most text few read =
    ap (λ b. cond b (Err refusal.TextTooLong) (or_refused refusal.BadValue (text_of most text))) (le-ltb most (length text) few) ∙ ap (or_refused refusal.BadValue) read

-- what is read with an opposite was read
opposed : (inverted : Bool) (q : Option ℕ) (n : ℕ) → with_opposite inverted q ≡ Some n → (q ≡ Some n) × (with_opposite inverted (Some n) ≡ Some n)
opposed inverted None n e = absurd (cc)
opposed inverted (Some m) n e = go (inverted && (m == 0)) refl e
  where
    go : (t : Bool) → (inverted && (m == 0)) ≡ t → cond t None (Some m) ≡ Some n → (Some m ≡ Some n) × (with_opposite inverted (Some n) ≡ Some n)
    go true on h = absurd (cc)
    go false off h = let same = same_some m n h in (h, subst (λ k. with_opposite inverted (Some k) ≡ Some k) same (ap (λ t. cond t None (Some m)) off))

-- two words
abbrev test_with : ℕ → ℕ → Option FlagTest
test_with m c = Some (record { mask = m; comp = c })

test-back : (x : FlagTest) → x.mask < 64 → x.comp < 64 → flag_test_of (tcp_flags_text x.mask) (tcp_flags_text x.comp) ≡ Some x
test-back x mask comp =
    ap (λ o. options.◌>>=◌ o (λ m. options.◌>>=◌ (tcp_flags_of (tcp_flags_text x.comp)) (λ c. test_with m c))) (flags.reads_back x.mask mask)
    ∙ ap (λ o. options.◌>>=◌ o (λ c. test_with x.mask c)) (flags.reads_back x.comp comp)

good-flags : (o : Opt) (inverted : Bool) (a b : List ℕ) (v : Value) → slot o ≡ 2 → owner opt.TcpFlags ≡ owner o → read_as value.TcpFlags (flag_test_of a b) ≡ Ok v → IsGood o inverted v
unfolding value_of
good-flags o inverted a b v at own e =
    let (x, is, same) = given refusal.BadValue value.TcpFlags (flag_test_of a b) v e in
    let (mask, comp) = known-test x is in
    let m = flags-word x.mask mask in
    let c = flags-word x.comp comp in
    let ms = m.short in
    let cs = c.short in
    let whole = length-append (spaced (bare (tcp_flags_text x.mask))) (spaced_all (one (tcp_flags_text x.comp))) in
    let last = one-short 23 (tcp_flags_text x.comp) c in
    subst (IsGood o inverted) same (record {
      place = sym at;
      owned = own;
      bang = λ e. refl;
      text = ap (read_as value.TcpFlags) (test-back x mask comp);
      spelled = word-more (bare (tcp_flags_text x.mask)) (one (tcp_flags_text x.comp)) m.bare (one-spelled 23 (tcp_flags_text x.comp) c);
      short = omega (arith, whole, last);
    })
  where
    known-test : (x : FlagTest) → flag_test_of a b ≡ Some x → (x.mask < 64) × (x.comp < 64)
    known-test x is =
        let (m, read, rest) = step_before (tcp_flags_of a) (λ m. options.◌>>=◌ (tcp_flags_of b) (λ c. Some (record { mask = m; comp = c }))) x is in
        let (c, read_c, done) = step_before (tcp_flags_of b) (λ c. Some (record { mask = m; comp = c })) x rest in
        let y : FlagTest = record { mask = m; comp = c } in
        subst (λ (z : FlagTest). (z.mask < 64) × (z.comp < 64)) (same_some y x done) (known a m read, known b c read_c)

-- a value that is read is good
pub value_of-good : (o : Opt) (inverted : Bool) (words : List (List ℕ)) (v : Value) → value_of o inverted words ≡ Ok v → IsGood o inverted v
unfolding value_of
value_of-good opt.Source inverted words v e =
    let (x, is, same) = given refusal.BadValue value.Source (prefix_of _) v e in
    let is_one = prefix-valid _ x is in
    let word = prefix-word x is_one in
    subst (IsGood opt.Source inverted) same (record { place = refl; owned = refl; bang = λ e. refl; text = ap (read_as value.Source) (prefix_of-prefix_text x is_one); spelled = one-spelled 18 (prefix_text x) word; short = one-short 18 (prefix_text x) word })
value_of-good opt.Destination inverted words v e =
    let (x, is, same) = given refusal.BadValue value.Destination (prefix_of _) v e in
    let is_one = prefix-valid _ x is in
    let word = prefix-word x is_one in
    subst (IsGood opt.Destination inverted) same (record { place = refl; owned = refl; bang = λ e. refl; text = ap (read_as value.Destination) (prefix_of-prefix_text x is_one); spelled = one-spelled 18 (prefix_text x) word; short = one-short 18 (prefix_text x) word })
value_of-good opt.InInterface inverted words v e =
    let (x, is, same) = given refusal.BadValue value.InInterface (interface_of _) v e in
    let is_one = interface_is_text _ x is in
    let word = interface-word x is_one in
    subst (IsGood opt.InInterface inverted) same (record { place = refl; owned = refl; bang = λ e. refl; text = ap (read_as value.InInterface) is_one; spelled = one-spelled 15 (x) word; short = one-short 15 (x) word })
value_of-good opt.OutInterface inverted words v e =
    let (x, is, same) = given refusal.BadValue value.OutInterface (interface_of _) v e in
    let is_one = interface_is_text _ x is in
    let word = interface-word x is_one in
    subst (IsGood opt.OutInterface inverted) same (record { place = refl; owned = refl; bang = λ e. refl; text = ap (read_as value.OutInterface) is_one; spelled = one-spelled 15 (x) word; short = one-short 15 (x) word })
value_of-good opt.SourcePort inverted words v e =
    let (x, is, same) = given refusal.BadValue value.SourcePort (port_range_of _) v e in
    let is_one = ports-valid _ x is in
    let word = ports-word x is_one in
    subst (IsGood opt.SourcePort inverted) same (record { place = refl; owned = refl; bang = λ e. refl; text = ap (read_as value.SourcePort) (port_range_of-ports_text x is_one); spelled = one-spelled 11 (ports_text x) word; short = one-short 11 (ports_text x) word })
value_of-good opt.DestinationPort inverted words v e =
    let (x, is, same) = given refusal.BadValue value.DestinationPort (port_range_of _) v e in
    let is_one = ports-valid _ x is in
    let word = ports-word x is_one in
    subst (IsGood opt.DestinationPort inverted) same (record { place = refl; owned = refl; bang = λ e. refl; text = ap (read_as value.DestinationPort) (port_range_of-ports_text x is_one); spelled = one-spelled 11 (ports_text x) word; short = one-short 11 (ports_text x) word })
value_of-good opt.IcmpType inverted words v e =
    let (x, is, same) = given refusal.BadValue value.IcmpType (icmp_of _) v e in
    let is_one = is_asked _ x is in
    let word = icmp-word x is_one in
    subst (IsGood opt.IcmpType inverted) same (record { place = refl; owned = refl; bang = λ e. refl; text = ap (read_as value.IcmpType) (icmp.reads_back x is_one); spelled = one-spelled 7 (icmp_text x) word; short = one-short 7 (icmp_text x) word })
value_of-good opt.SourcePorts inverted words v e =
    let (x, is, same) = given refusal.BadValue value.SourcePorts (port_list_of _) v e in
    let is_one = port_list_of-is _ x is in
    let word = list-word x is_one in
    subst (IsGood opt.SourcePorts inverted) same (record { place = refl; owned = refl; bang = λ e. refl; text = ap (read_as value.SourcePorts) (list.reads_back x is_one); spelled = one-spelled 90 (port_list_text x) word; short = one-short 90 (port_list_text x) word })
value_of-good opt.DestinationPorts inverted words v e =
    let (x, is, same) = given refusal.BadValue value.DestinationPorts (port_list_of _) v e in
    let is_one = port_list_of-is _ x is in
    let word = list-word x is_one in
    subst (IsGood opt.DestinationPorts inverted) same (record { place = refl; owned = refl; bang = λ e. refl; text = ap (read_as value.DestinationPorts) (list.reads_back x is_one); spelled = one-spelled 90 (port_list_text x) word; short = one-short 90 (port_list_text x) word })
value_of-good opt.Ports inverted words v e =
    let (x, is, same) = given refusal.BadValue value.Ports (port_list_of _) v e in
    let is_one = port_list_of-is _ x is in
    let word = list-word x is_one in
    subst (IsGood opt.Ports inverted) same (record { place = refl; owned = refl; bang = λ e. refl; text = ap (read_as value.Ports) (list.reads_back x is_one); spelled = one-spelled 90 (port_list_text x) word; short = one-short 90 (port_list_text x) word })
value_of-good opt.SourceRange inverted words v e =
    let (x, is, same) = given refusal.BadValue value.SourceRange (ip_range_of _) v e in
    let is_one = range-valid _ x is in
    let word = range-word x is_one in
    subst (IsGood opt.SourceRange inverted) same (record { place = refl; owned = refl; bang = λ e. refl; text = ap (read_as value.SourceRange) (range.reads_back x is_one); spelled = one-spelled 31 (ip_range_text x) word; short = one-short 31 (ip_range_text x) word })
value_of-good opt.DestinationRange inverted words v e =
    let (x, is, same) = given refusal.BadValue value.DestinationRange (ip_range_of _) v e in
    let is_one = range-valid _ x is in
    let word = range-word x is_one in
    subst (IsGood opt.DestinationRange inverted) same (record { place = refl; owned = refl; bang = λ e. refl; text = ap (read_as value.DestinationRange) (range.reads_back x is_one); spelled = one-spelled 31 (ip_range_text x) word; short = one-short 31 (ip_range_text x) word })
value_of-good opt.Ctstate inverted words v e =
    let (x, is, same) = given refusal.BadValue value.Ctstate (ctstate_of _) v e in
    let is_one = are_states _ x is in
    let word = states-word x is_one in
    subst (IsGood opt.Ctstate inverted) same (record { place = refl; owned = refl; bang = λ e. refl; text = ap (read_as value.Ctstate) (ctstate_reads_back x is_one); spelled = one-spelled 60 (states_text x) word; short = one-short 60 (states_text x) word })
value_of-good opt.Protocol inverted words v e =
    let (x, is, same) = given refusal.BadValue value.Protocol (with_opposite inverted (protocol_of _)) v e in
    let (read, kept) = opposed inverted (protocol_of _) x is in
    let small = protocol-valid _ x read in
    let word = protocol-word x small in
    subst (IsGood opt.Protocol inverted) same (record { place = refl; owned = refl; bang = λ e. refl; text = ap (λ q. read_as value.Protocol (with_opposite inverted q)) (protocol_of-protocol_text x small) ∙ ap (read_as value.Protocol) kept; spelled = one-spelled 9 (protocol_text x) word; short = one-short 9 (protocol_text x) word })
value_of-good opt.TcpFlags inverted words v e = good-flags opt.TcpFlags inverted _ _ v refl refl e
value_of-good opt.Syn inverted words v e = good-flags opt.Syn inverted _ _ v refl refl e
value_of-good opt.State inverted words v e =
    let (x, is, same) = given refusal.BadValue value.State (state_of _) v e in
    let (read, plain_set) = state-valid _ x is in
    let are = are_states _ x read in
    let word = states-word x are in
    subst (IsGood opt.State inverted) same (record { place = refl; owned = refl; bang = λ e. refl; text = ap (read_as value.State) (state_reads_back x are plain_set); spelled = one-spelled 60 (states_text x) word; short = one-short 60 (states_text x) word })
value_of-good opt.Comment inverted words v e =
    let (x, is, same) = text-given 256 value.Comment (first_of words) v e in
    let (few, read, one) = text-valid 256 _ x is in
    subst (IsGood opt.Comment inverted) same (record { place = refl; owned = refl; bang = λ e. e; text = ap (text_as value.Comment) (text-within 256 x few read); spelled = text-spelled x one; short = text-short 256 x few })
value_of-good opt.LogPrefix inverted words v e =
    let (x, is, same) = text-given 29 value.LogPrefix (first_of words) v e in
    let (few, read, one) = text-valid 29 _ x is in
    subst (IsGood opt.LogPrefix inverted) same (record { place = refl; owned = refl; bang = λ e. e; text = ap (text_as value.LogPrefix) (text-within 29 x few read); spelled = text-spelled x one; short = text-short 29 x few })
value_of-good opt.TtlEqual inverted words v e =
    let (x, is, same) = given refusal.BadValue value.TtlEqual (ttl_of _) v e in
    let small = ttl.within _ x is in
    let word = ttl-word x small in
    subst (IsGood opt.TtlEqual inverted) same (record { place = refl; owned = refl; bang = λ e. refl; text = ap (read_as value.TtlEqual) (ttl.reads_back x small); spelled = one-spelled 3 (ttl_text x) word; short = one-short 3 (ttl_text x) word })
value_of-good opt.TtlGreater inverted words v e =
    let (x, is, same) = given refusal.BadValue value.TtlGreater (ttl_of _) v e in
    let small = ttl.within _ x is in
    let word = ttl-word x small in
    subst (IsGood opt.TtlGreater inverted) same (record { place = refl; owned = refl; bang = λ e. e; text = ap (read_as value.TtlGreater) (ttl.reads_back x small); spelled = one-spelled 3 (ttl_text x) word; short = one-short 3 (ttl_text x) word })
value_of-good opt.TtlLess inverted words v e =
    let (x, is, same) = given refusal.BadValue value.TtlLess (ttl_of _) v e in
    let small = ttl.within _ x is in
    let word = ttl-word x small in
    subst (IsGood opt.TtlLess inverted) same (record { place = refl; owned = refl; bang = λ e. e; text = ap (read_as value.TtlLess) (ttl.reads_back x small); spelled = one-spelled 3 (ttl_text x) word; short = one-short 3 (ttl_text x) word })
value_of-good opt.RejectWith inverted words v e =
    let (x, is, same) = given refusal.BadValue value.RejectWith (reject_of (first_of words)) v e in
    let word = reject-word x in
    subst (IsGood opt.RejectWith inverted) same (record { place = refl; owned = refl; bang = λ e. e; text = ap (read_as value.RejectWith) (reads_text (reject_text x) x refl); spelled = one-spelled 22 (reject_text x) word; short = one-short 22 (reject_text x) word })
value_of-good opt.LogLevel inverted words v e =
    let (x, is, same) = given refusal.BadValue value.LogLevel (log_level_of (first_of words)) v e in
    let word = level-word x in
    subst (IsGood opt.LogLevel inverted) same (record { place = refl; owned = refl; bang = λ e. e; text = ap (read_as value.LogLevel) (level.reads_back x); spelled = one-spelled 1 (log_level_text x) word; short = one-short 1 (log_level_text x) word })
value_of-good opt.Fragment inverted words v e =
    subst (IsGood opt.Fragment inverted) (same-value value.Fragment v e) (record { place = refl; owned = refl; bang = λ e. e; text = refl; spelled = none-spelled; short = omega arith })
value_of-good opt.LogTcpSequence inverted words v e =
    subst (IsGood opt.LogTcpSequence inverted) (same-value value.LogTcpSequence v e) (record { place = refl; owned = refl; bang = λ e. e; text = refl; spelled = none-spelled; short = omega arith })
value_of-good opt.LogTcpOptions inverted words v e =
    subst (IsGood opt.LogTcpOptions inverted) (same-value value.LogTcpOptions v e) (record { place = refl; owned = refl; bang = λ e. e; text = refl; spelled = none-spelled; short = omega arith })
value_of-good opt.LogIpOptions inverted words v e =
    subst (IsGood opt.LogIpOptions inverted) (same-value value.LogIpOptions v e) (record { place = refl; owned = refl; bang = λ e. e; text = refl; spelled = none-spelled; short = omega arith })
value_of-good opt.LogUid inverted words v e =
    subst (IsGood opt.LogUid inverted) (same-value value.LogUid v e) (record { place = refl; owned = refl; bang = λ e. e; text = refl; spelled = none-spelled; short = omega arith })
value_of-good opt.Match inverted words v e = absurd (cc)
value_of-good opt.Jump inverted words v e = absurd (cc)
value_of-good opt.Goto inverted words v e = absurd (cc)
