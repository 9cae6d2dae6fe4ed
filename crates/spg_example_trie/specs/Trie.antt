-- The trie: an inner tuple has a fork for its prefix. Below the fork a number goes to node 0, else to node 1.
use Rattle.std.specs.Prelude.{◌≡◌, ◌<◌, ℕ, zero, suc, ◌-◌, ◌*◌, ◌/◌, ◌^◌, ◌==◌, min, max, nat_lt, nat_le, pos, Bool, true, false, ◌||◌, if◌then◌else◌, List, [], ◌∷◌, map, length}
use Rattle.std.specs.List.{fold, list_all}
use Rattle.std.specs.Int.{w64, to_le_bytes}
use Rattle.spg_opclass.specs.declared.view.InnerView.{InnerView}
use Rattle.spg_opclass.specs.declared.view.Choice.TheVariants.{Match}
use Rattle.spg_opclass.specs.declared.view.Picked.{Picked}
use Rattle.spg_opclass.specs.Indices.{kept_below}
use Rattle.spg_opclass.specs.Meaning.{Meaning}
use Rattle.spg_example_trie.specs.declared.class.NumberRecon.{NumberRecon}
use Rattle.spg_example_trie.specs.declared.number.Number.{Number}
use Rattle.spg_example_trie.specs.declared.number.NumberCond.{NumberCond}
use Rattle.spg_example_trie.specs.Numbers.{is_number, bytes_of, number_of, rebuilt, low_end, high_end, cond_holds}

-- the node of a number
unfoldable pub side : ℕ → ℕ → ℕ
side fork n = if nat_lt n fork then 0 else 1

-- where numbers from low to high part: at the highest bit, below so many, in which low differs from high. The fork has the leading bits of high down to it, then zeros
unfoldable pub fork : ℕ → ℕ → ℕ → ℕ
fork zero low high = high
fork (suc bit) low high = if nat_lt (low / 2 ^ bit) (high / 2 ^ bit) then high / 2 ^ bit * 2 ^ bit else fork bit low high

-- low and high part at a bit: it is the highest in which they differ, and the fork is where the numbers with the bits of high down to it begin
pub record IsFork (low high at : ℕ) : Type 0 where
  pub bit : ℕ
  pub shared : low / 2 ^ suc bit ≡ high / 2 ^ suc bit
  pub differs : low / 2 ^ bit < high / 2 ^ bit
  pub begins : at ≡ high / 2 ^ bit * 2 ^ bit

-- the least and the greatest number of rests
abbrev pub lower : ℕ → List ℕ → ℕ
lower low rest = min low (number_of rest)

abbrev pub higher : ℕ → List ℕ → ℕ
higher high rest = max high (number_of rest)

unfoldable pub least : List (List ℕ) → ℕ
least rests = fold lower (2 ^ 64 - 1) rests

unfoldable pub greatest : List (List ℕ) → ℕ
greatest rests = fold higher 0 rests

unfoldable pub fork_of : List (List ℕ) → ℕ
fork_of rests = fork 64 (least rests) (greatest rests)

-- how rests are divided: each of them stays as it is
unfoldable pub parted : List (List ℕ) → Picked
parted rests = record {
  prefix = to_le_bytes w64 (fork_of rests);
  labels = pos 0 ∷ pos 0 ∷ [];
  node_of = map (λ r. side (fork_of rests) (number_of r)) rests;
  rests = rests;
}

-- two nodes, and 8 where the tuple is all-the-same; labels say nothing
abbrev pub has_nodes : InnerView → Bool
has_nodes tuple = length tuple.labels == (if tuple.all_same then 8 else 2)

-- the node to which a rest goes, and which numbers a node admits: all of them where the tuple is all-the-same
unfoldable pub node_for : InnerView → List ℕ → ℕ
node_for tuple rest = if tuple.all_same then 0 else side (number_of tuple.prefix) (number_of rest)

unfoldable pub admitted : InnerView → ℕ → Number → Bool
admitted tuple node key = tuple.all_same || side (number_of tuple.prefix) key.value == node

-- the node may have a number of which the condition holds: one end of the condition tells
unfoldable pub meets : ℕ → ℕ → NumberCond → Bool
meets fork node cond = if node == 0 then nat_lt (low_end cond) fork else nat_le fork (high_end cond)

unfoldable pub is_wanted : InnerView → List NumberCond → ℕ → Bool
is_wanted tuple conds node = tuple.all_same || list_all (meets (number_of tuple.prefix) node) conds

-- the class
abbrev pub numbers_meaning : Meaning Number NumberRecon NumberCond
numbers_meaning = record {
  labels = false;
  start = record {};
  is_key = is_number;
  bare = bytes_of;
  is_recon = λ _. true;
  is_cond = λ _. true;
  rest_of = bytes_of;
  rebuild = λ _ rest. rebuilt rest;
  longest = 8;
  is_prefix = λ prefix. length prefix == 8;
  is_rest = λ rest. length rest == 8;
  has_nodes = has_nodes;
  answer = λ _ tuple rest. Match (node_for tuple rest) rest;
  parts = λ _ rests. parted rests;
  down = λ recon _ _. recon;
  admits = λ _ tuple node key. admitted tuple node key;
  holds = λ cond key. cond_holds cond key.value;
  kept = λ _ tuple conds. kept_below (is_wanted tuple conds) (length tuple.labels);
}
