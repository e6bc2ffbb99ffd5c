-- Request [2], "Feeding in captures": what becomes of one captured packet. Its bytes are counted from 0.
use Rattle.std.specs.Prelude.{ℕ, ◌+◌, ◌*◌, ◌/◌, ◌%◌, ◌^◌, Bool, true, false, cond, List, [], ◌∷◌, ◌++◌, eqb, leb, ltb, length, get_or, take, drop, replicate, Result, Ok, Err}
use Rattle.bigendian.specs.BigEndian.{number2_at}
use Rattle.frames.specs.declared.Carried.{Carried}
use Rattle.frames.specs.declared.Skip.{Skip}
use Rattle.frames.specs.declared.Skip.TheVariants.{LinkType, NotIpv4, Fragment, OtherProtocol, CutShort}

-- "Every skipped packet is counted under exactly one reason, the first that applies: link type, not IPv4, fragment, other protocol, cut
-- short": their numbers in that order; 0 for a packet that isn't skipped
abbrev pub emitted : ℕ
emitted = 0

abbrev pub link_type : ℕ
link_type = 1

abbrev pub not_ipv4 : ℕ
not_ipv4 = 2

abbrev pub fragment : ℕ
fragment = 3

abbrev pub other_protocol : ℕ
other_protocol = 4

abbrev pub cut_short : ℕ
cut_short = 5

-- what becomes of a packet: the number of the reason why it is skipped, or its key, and whether it is TCP's with FIN
pub record Outcome : Type 0 where
  pub reason : ℕ
  pub fin : Bool
  pub key : List ℕ

abbrev pub skipped : ℕ → Outcome
skipped why = record { reason = why; fin = false; key = replicate 13 0 }

-- Ethernet: two addresses of 6 bytes, then the EtherType; 0x0800 is IPv4
abbrev pub ether_type : List ℕ → ℕ
ether_type b = number2_at b 12

-- IPv4, from byte 14 on: version and header length in words of 4 bytes, the fragment offset (the low 13 bits of its field), the protocol
abbrev pub version : List ℕ → ℕ
version b = get_or b 14 0 / 16

abbrev pub header_words : List ℕ → ℕ
header_words b = get_or b 14 0 % 16

abbrev pub fragment_offset : List ℕ → ℕ
fragment_offset b = number2_at b 20 % 2 ^ 13

abbrev pub protocol : List ℕ → ℕ
protocol b = get_or b 23 0

abbrev pub is_tcp : List ℕ → Bool
is_tcp b = eqb (protocol b) 6

abbrev pub is_udp : List ℕ → Bool
is_udp b = eqb (protocol b) 17

-- TCP and UDP, behind the IPv4 header and its options: the two ports; in TCP FIN is the lowest bit of byte 13
abbrev pub ports_at : List ℕ → ℕ
ports_at b = 14 + header_words b * 4

abbrev pub has_fin : List ℕ → Bool
has_fin b = eqb (get_or b (ports_at b + 13) 0 % 2) 1

-- document 01: "A key is 13 bytes: source address 4, destination address 4, source port 2, destination port 2, protocol 1"
abbrev pub key_in : List ℕ → List ℕ
key_in b = take 8 (drop 26 b) ++ (take 4 (drop (ports_at b) b) ++ (protocol b ∷ []))

-- a question that the packet's first n bytes decide. "where captured bytes that decide one, the ports or TCP's flags are missing, it is cut
-- short"; where the answer is no, the packet is skipped for the reason; else the next question follows
abbrev pub asked : List ℕ → ℕ → Bool → ℕ → Outcome → Outcome
asked b n holds why next = cond (ltb (length b) n) (skipped cut_short) (cond holds next (skipped why))

-- "Each TCP or UDP packet becomes kind 1; a TCP packet with FIN is followed by kind 2", where the n bytes from its ports on are there
abbrev pub carried : List ℕ → ℕ → Bool → Outcome
carried b n end = asked b (ports_at b + n) true cut_short (record { reason = emitted; fin = end; key = key_in b })

-- "fragment": a later one, whose offset isn't 0; then "other protocol". UDP needs its ports, TCP its flags too
unfoldable pub of_ipv4 : List ℕ → Outcome
of_ipv4 b =
    asked b 22 (eqb (fragment_offset b) 0) fragment
    (asked b 24 (cond (is_tcp b) true (is_udp b)) other_protocol
    (cond (is_tcp b) (carried b 14 (has_fin b)) (carried b 4 false)))

-- "Another EtherType or version, or a header length under 5, is not IPv4."
unfoldable pub of_ethernet : List ℕ → Outcome
of_ethernet b =
    asked b 14 (eqb (ether_type b) 2048) not_ipv4 (asked b 15 (cond (eqb (version b) 4) (leb 5 (header_words b)) false) not_ipv4 (of_ipv4 b))

-- "the first that applies: link type, .."; whether the link type is Ethernet, the file's header says
unfoldable pub outcome : Bool → List ℕ → Outcome
outcome ethernet b = cond ethernet (of_ethernet b) (skipped link_type)

-- document 01: "If an answer is an enum, a definition gives this paper's number and values for each of its cases."
abbrev pub reason_of : Skip → ℕ
reason_of LinkType = link_type
reason_of NotIpv4 = not_ipv4
reason_of Fragment = fragment
reason_of OtherProtocol = other_protocol
reason_of CutShort = cut_short

abbrev pub outcome_of : Result Carried Skip → Outcome
outcome_of (Ok c) = record { reason = emitted; fin = c.fin; key = c.key }
outcome_of (Err why) = skipped (reason_of why)
