-- What a split and a join leave.
use Rattle.std.specs.Prelude.{◌≡◌, ◌+◌, ◌≤◌, ◌⊎◌, ℕ, [], ◌++◌}
use Rattle.office_base.specs.declared.booked.Booked.{Ghosts}
use Rattle.office_desk.specs.declared.keeps.Keeps.{Ghosts as Kept}
use Rattle.office_desk.specs.declared.handles.Pass.{Pass}
use Rattle.office_desk.specs.declared.view.View.{View}
use Rattle.office_desk.specs.declared.view.Stage.TheVariants.{Idle}
use Rattle.office_desk.specs.Own.{Begins, AreMerged}
use Rattle.office_desk.specs.Turning.{both_of}
use Rattle.office_desk.specs.Words.{shares_of, left_of, tickets_of, seen_of, own_of, found_of, count_of, kept_of}

-- two views in one, after it was settled
abbrev pub united : {V I : Type 0} → View V I → View V I → View V I
united v w = record (both_of v w) { stage = Idle }

module _ {V I : Type 0} {k : Kept V I} {g : Ghosts V I} where
  -- A share and these turns went to a new pass, which has seen what the old one has; the rest of the old one stays.
  pub record IsSplitOff (turns : ℕ) (before after new : Pass V I k g) : Type 0 where
    pub shares : shares_of before ≡ shares_of after + 1
    pub left : left_of before ≡ left_of after + turns
    pub tickets : tickets_of after ≡ tickets_of before
    pub seen : seen_of after ≡ seen_of before
    pub found : found_of after ≡ found_of before
    pub count : count_of after ≡ count_of before
    pub kept : kept_of after ≡ kept_of before
    pub own : own_of after ≡ own_of before
    pub new_shares : shares_of new ≡ 1
    pub new_left : left_of new ≡ turns
    pub new_tickets : tickets_of new ≡ []
    pub new_seen : seen_of new ≡ seen_of before
    pub new_found : found_of new ≡ found_of before
    pub new_count : count_of new ≡ count_of before
    pub new_kept : kept_of new ≡ kept_of before

  -- Shares, turns and tickets of both are joined.
  -- Of the two lists that were seen one is a prefix of the other, and the longer one stays.
  -- The passes' own entries are joined, each once. The larger count stays, with what was found before it,
  -- and the larger number of kept entries.
  pub record IsUnion (one other both : Pass V I k g) : Type 0 where
    pub shares : shares_of both ≡ shares_of one + shares_of other
    pub left : left_of both ≡ left_of one + left_of other
    pub tickets : tickets_of both ≡ tickets_of one ++ tickets_of other
    pub seen : (Begins (seen_of one) (seen_of other) × (seen_of both ≡ seen_of other)) ⊎ (Begins (seen_of other) (seen_of one) × (seen_of both ≡ seen_of one))
    pub own : AreMerged (own_of one) (own_of other) (own_of both)
    pub count : ((count_of one ≤ count_of other) × (count_of both ≡ count_of other) × (found_of both ≡ found_of other)) ⊎ ((count_of other ≤ count_of one) × (count_of both ≡ count_of one) × (found_of both ≡ found_of one))
    pub kept : ((kept_of one ≤ kept_of other) × (kept_of both ≡ kept_of other)) ⊎ ((kept_of other ≤ kept_of one) × (kept_of both ≡ kept_of one))
