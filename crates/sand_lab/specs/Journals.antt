-- The journal of an epoch: which dropper made each drop, and where, by the number of the drop.
use Rattle.std.specs.Prelude.{ℕ, ◌≡◌, ◌≢◌, ◌*◌, ◌/◌, ◌^◌, ◌<◌, ◌≤◌, ◌==◌, List, Vec, All, AllPairs, length, map, filter, slice_get, Some}
use Rattle.std.specs.List.{flat_map}
use Rattle.std.specs.declared.alloc.Global.{Global}
use Rattle.sand_shared.specs.declared.view.Receipt.{Receipt}
use Rattle.sand_shared.specs.Passes.{EachOnce, AllBelow}
use Rattle.sand_lab.specs.declared.journal.Entry.{Entry}
use Rattle.sand_lab.specs.Streams.{stream_of, stream_sites}

abbrev pub entry : ℕ → ℕ → Entry
entry dropper site = record { dropper = dropper; site = site }

abbrev pub sites_in : List Entry → List ℕ
sites_in journal = map (λ e. e.site) journal

-- the sites at which one dropper dropped, in order
abbrev pub sites_by : ℕ → List Entry → List ℕ
sites_by dropper journal = sites_in (filter (λ e. e.dropper == dropper) journal)

-- the sites of receipts, in order
abbrev pub receipt_sites : List Receipt → List ℕ
receipt_sites receipts = map (λ (r : Receipt). r.site) receipts

-- each receipt has a greater number than those before it
abbrev pub Ascends : List Receipt → Type 0
Ascends receipts = AllPairs (λ r s. r.number < s.number) receipts

-- the receipts of each dropper, from a list of lists
abbrev pub lists : List (Vec Receipt Global) → List (List Receipt)
lists parts = map (λ part. part.items) parts

-- the parts one after another
abbrev pub flattened : List (List Receipt) → List Receipt
flattened parts = flat_map (λ (part : List Receipt). part) parts

-- the receipts are the parts one after another; each part has `drops` receipts, with ascending numbers
pub record AreParts (drops : ℕ) (parts : List (List Receipt)) (receipts : List Receipt) : Type 0 where
  pub whole : flattened parts ≡ receipts
  pub len : All (λ part. length part ≡ drops) parts
  pub ascend : All Ascends parts

-- such parts of at most 2^32 droppers, in which each number below their length occurs once, so that a journal of length
-- `long` has an entry for each receipt
pub record HavePlaces (drops : ℕ) (parts : List (List Receipt)) (long : ℕ) : Type 0 where
  pub are_parts : AreParts drops parts (flattened parts)
  pub len : long ≡ length (flattened parts)
  pub once : EachOnce (flattened parts)
  pub below : AllBelow (length (flattened parts)) (flattened parts)
  pub few_droppers : length parts ≤ 2 ^ 32

-- the entry of each of a dropper's receipts is at its number
abbrev pub HasEntries : ℕ → List Receipt → List Entry → Type 0
HasEntries dropper receipts journal =
    (i : ℕ) (r : Receipt) → slice_get receipts i ≡ Some r → slice_get journal r.number ≡ Some (entry dropper r.site)

-- two journals have the same entries, except at the numbers of the receipts
abbrev pub AgreeBeside : List Receipt → List Entry → List Entry → Type 0
AgreeBeside receipts before after =
    (n : ℕ) → All (λ (r : Receipt). r.number ≢ n) receipts → slice_get after n ≡ slice_get before n

-- the receipts of the droppers come one dropper after another, `drops` each, and the entry of each is at its number
pub record IsJournal (drops : ℕ) (receipts : List Receipt) (journal : List Entry) : Type 0 where
  pub len : length journal ≡ length receipts
  pub noted : (i : ℕ) (r : Receipt) → slice_get receipts i ≡ Some r
      → slice_get journal r.number ≡ Some (entry (i / drops) r.site)

-- each dropper dropped at the sites of its stream, in order, and nobody else dropped
pub record FollowsStreams (sites seed droppers drops epoch : ℕ) (journal : List Entry) : Type 0 where
  pub all : length journal ≡ droppers * drops
  pub each : (k : ℕ) → k < droppers → sites_by k journal ≡ stream_sites sites seed (stream_of epoch k) drops
