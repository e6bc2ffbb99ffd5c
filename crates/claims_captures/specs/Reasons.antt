-- Request [2]: "Every skipped packet is counted under exactly one reason, the first that applies: link type, not IPv4, fragment, other
-- protocol, cut short; where captured bytes that decide one, the ports or TCP's flags are missing, it is cut short. Another EtherType or
-- version, or a header length under 5, is not IPv4." When a reason applies, each by itself, and what the first that applies is.
use Rattle.std.specs.Prelude.{ℕ, ◌+◌, ◌≤◌, ◌<◌, Bool, false, cond, List, ◌≢◌, ◌↔◌, ◌⊎◌, ◌≡◌, length, replicate}
use Rattle.frames.specs.Frames.{Outcome, outcome, emitted, link_type, not_ipv4, fragment, other_protocol, cut_short, ether_type, version, header_words, fragment_offset, protocol, ports_at, is_tcp, has_fin, key_in}

-- a byte of the packet was captured, as were all before it; or it is missing. A field is there once its last byte is
abbrev pub There : List ℕ → ℕ → Type 0
There b i = i < length b

abbrev pub Missing : List ℕ → ℕ → Type 0
Missing b i = length b ≤ i

-- "Another EtherType or version, or a header length under 5"
pub data NotIPv4 (b : List ℕ) : Type 0 where
  another_ether_type : There b 13 → ether_type b ≢ 2048 → NotIPv4 b
  another_version : There b 14 → version b ≢ 4 → NotIPv4 b
  short_header : There b 14 → header_words b < 5 → NotIPv4 b

-- a later fragment
pub record Fragment (b : List ℕ) : Type 0 where
  pub there : There b 21
  pub later : fragment_offset b ≢ 0

-- neither TCP nor UDP
pub record OtherProtocol (b : List ℕ) : Type 0 where
  pub there : There b 23
  pub not_tcp : protocol b ≢ 6
  pub not_udp : protocol b ≢ 17

-- "captured bytes that decide one, the ports or TCP's flags are missing"
pub data CutShort (b : List ℕ) : Type 0 where
  no_ether_type : Missing b 13 → CutShort b
  no_version : Missing b 14 → CutShort b
  no_fragment_field : Missing b 21 → CutShort b
  no_protocol : Missing b 23 → CutShort b
  no_ports : (protocol b ≡ 6) ⊎ (protocol b ≡ 17) → Missing b (ports_at b + 3) → CutShort b
  no_flags : protocol b ≡ 6 → Missing b (ports_at b + 13) → CutShort b

-- a reason, by its number, applies. More than one can: a packet of another EtherType may have any number where a fragment's offset, a
-- protocol or a header length would stand. The first is the right one all the same, since the bytes that decide a reason lie behind those
-- that decide the reasons before it: where a fragment's field is there, it was decided whether this is IPv4
pub data Applies (ethernet : Bool) (b : List ℕ) : ℕ → Type 0 where
  by_link_type : ethernet ≡ false → Applies ethernet b link_type
  by_not_ipv4 : NotIPv4 b → Applies ethernet b not_ipv4
  by_fragment : Fragment b → Applies ethernet b fragment
  by_protocol : OtherProtocol b → Applies ethernet b other_protocol
  by_cut_short : CutShort b → Applies ethernet b cut_short

-- "the first that applies", in the order of the numbers; and that none does
pub record FirstThat (why : ℕ) (ethernet : Bool) (b : List ℕ) : Type 0 where
  pub applies : Applies ethernet b why
  pub none_earlier : (other : ℕ) → other < why → Applies ethernet b other → ⊥

abbrev pub NoneApplies : Bool → List ℕ → Type 0
NoneApplies ethernet b = (why : ℕ) → Applies ethernet b why → ⊥

-- a packet is skipped for a reason exactly where that is the first that applies, and emitted exactly where none does
pub record ByFirst (ethernet : Bool) (b : List ℕ) : Type 0 where
  pub skipped_for : (why : ℕ) → 0 < why → (outcome ethernet b).reason ≡ why ↔ FirstThat why ethernet b
  pub emitted_where : (outcome ethernet b).reason ≡ emitted ↔ NoneApplies ethernet b

abbrev pub FirstApplies : Type 0
FirstApplies = (ethernet : Bool) (b : List ℕ) → ByFirst ethernet b

-- "Each TCP or UDP packet becomes kind 1; a TCP packet with FIN is followed by kind 2": an emitted packet has its own key, and an end to
-- come exactly where it is TCP with FIN; a skipped one has neither
pub record KeyRight (b : List ℕ) (o : Outcome) : Type 0 where
  pub emitted_key : o.reason ≡ emitted → o.key ≡ key_in b
  pub emitted_fin : o.reason ≡ emitted → o.fin ≡ cond (is_tcp b) (has_fin b) false
  pub skipped_key : 0 < o.reason → o.key ≡ replicate 13 0
  pub skipped_fin : 0 < o.reason → o.fin ≡ false

abbrev pub EmittedKey : Type 0
EmittedKey = (ethernet : Bool) (b : List ℕ) → KeyRight b (outcome ethernet b)
