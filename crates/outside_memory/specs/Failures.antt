-- Inner: which calls of an object in memory are to fail.
use Rattle.std.specs.Prelude.{ℕ, ◌==◌, ◌&&◌, Bool, true, false, List, find, take, Option, Some, None, option_map}
use Rattle.outside_memory.specs.declared.fail.CallKind.{CallKind}
use Rattle.outside_memory.specs.declared.fail.CallKind.TheVariants.{Recv, Send, Append, Read, Replace, Accept, Start}
use Rattle.outside_memory.specs.declared.fail.CallKind.TheVariants.{ConnRecv, ConnSend, VaultRead, VaultWrite}
use Rattle.outside_memory.specs.declared.fail.Fail.{Fail}

-- whether two calls are of one kind
abbrev pub same_kind : CallKind → CallKind → Bool
same_kind Recv Recv = true
same_kind Send Send = true
same_kind Append Append = true
same_kind Read Read = true
same_kind Replace Replace = true
same_kind Accept Accept = true
same_kind Start Start = true
same_kind ConnRecv ConnRecv = true
same_kind ConnSend ConnSend = true
same_kind VaultRead VaultRead = true
same_kind VaultWrite VaultWrite = true
same_kind _ _ = false

-- how many bytes still go out by the call of this kind with this number, if it is to fail: as the
-- first entry for it says
abbrev pub failure_of : List Fail → CallKind → ℕ → Option ℕ
failure_of fails call number =
    option_map (λ f. f.sent) (find (λ f. same_kind f.call call && (f.number == number)) fails)

-- the bytes that go out by a call: all, or as many as its failure says
abbrev pub bytes_let_out : Option ℕ → List ℕ → List ℕ
bytes_let_out None bytes = bytes
bytes_let_out (Some sent) bytes = take sent bytes
