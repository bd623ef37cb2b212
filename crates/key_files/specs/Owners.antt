-- Whose a file of keys has to be.
use Rattle.std.specs.Prelude.{◌≡◌, ℕ, List, bit_and}
use Rattle.byte_ends.specs.Lines.{lines_of}
use Rattle.key_file.specs.Files.{AreUnreadKeys}
use Rattle.key_file.specs.declared.fault.KeyFault.{KeyFault}
use Rattle.key_file.specs.declared.fault.KeyFault.TheVariants.{Open, BadLine, NoKey, ReadFault, NoMemory}
use Rattle.key_files.specs.declared.owned.FileOwner.{FileOwner}

-- the last six bits of a mode: what the group and others may do
abbrev pub for_others : ℕ
for_others = 63

-- the file is this user's, and its group and others have no permission
pub record IsUsersOwn (owner : FileOwner) (user : ℕ) : Type 0 where
  pub user_is : owner.user ≡ user
  pub closed : bit_and owner.mode for_others ≡ 0

-- why its keys aren't read
abbrev pub IsNotRead : FileOwner → ℕ → List ℕ → KeyFault → Type 0
IsNotRead owner user text Open = ¬ IsUsersOwn owner user
IsNotRead owner user text (BadLine n) = IsUsersOwn owner user × AreUnreadKeys (lines_of text) (BadLine n)
IsNotRead owner user text NoKey = ⊥
IsNotRead owner user text ReadFault = ⊥
IsNotRead owner user text NoMemory = Unit {0}
