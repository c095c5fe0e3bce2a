-- Chains as they lie in memory: heads and links.
use Rattle.std.specs.Prelude.{ℕ, List, [], ◌∷◌, ◌≡◌, ◌<◌, ◌≤◌, zero, suc, cond, nat_lt, length, map, slice_index_or}
use Rattle.std.specs.List.{sum_by}
use Rattle.link_chain.specs.Indexes.{nowhere}
use Rattle.link_chain.specs.declared.linked_lists.Head.{Head}
use Rattle.link_chain.specs.declared.linked_lists.Link.{Link}
use Rattle.link_chain.specs.Chains.{list_at, times}

-- the head at an index, and none past the end
abbrev pub head_at : List Head → ℕ → Head
head_at heads i = slice_index_or heads i (record { first = nowhere; last = nowhere })

-- the link at an index, and none past the end
abbrev pub link_at : List Link → ℕ → Link
link_at links i = slice_index_or links i (record { item = 0; next = nowhere })

-- the pairs from a link on, of at most so many
abbrev pub walk : List Link → ℕ → ℕ → List (ℕ × ℕ)
walk links zero l = []
walk links (suc n) l = cond (nat_lt l (length links)) ((l, (link_at links l).item) ∷ walk links n (link_at links l).next) []

-- the lists that heads and links make
abbrev pub lists_of : List Head → List Link → List (List (ℕ × ℕ))
lists_of heads links = map (λ head. walk links (length links) head.first) heads

-- a pair is a link and its item, and the link is followed by a later one or by none
pub record IsStep (link : Link) (count l : ℕ) (p : ℕ × ℕ) : Type 0 where
  pub here : p ≡ (l, link.item)
  pub within : l < count
  pub rises : l < link.next

-- the pairs from a link on
abbrev pub IsChainFrom : List Link → ℕ → List (ℕ × ℕ) → Type 0
IsChainFrom links l [] = l ≡ nowhere
IsChainFrom links l (p ∷ ps) = IsStep (link_at links l) (length links) l p × IsChainFrom links (link_at links l).next ps

-- the last link of a list, where `l` is the one before it
abbrev pub last_link : ℕ → List (ℕ × ℕ) → ℕ
last_link l [] = l
last_link l (p ∷ ps) = last_link p.0 ps

-- heads and links that hold these lists
pub record AreChains (heads : List Head) (links : List Link) (lists : List (List (ℕ × ℕ))) : Type 0 where
  pub few : length links ≤ nowhere
  pub same : length lists ≡ length heads
  pub count : sum_by length lists ≡ length links
  pub once : (l : ℕ) → sum_by (times l) lists ≤ 1
  pub walks : (h : ℕ) → h < length heads → IsChainFrom links (head_at heads h).first (list_at lists h)
  pub ends : (h : ℕ) → h < length heads → (head_at heads h).last ≡ last_link nowhere (list_at lists h)
