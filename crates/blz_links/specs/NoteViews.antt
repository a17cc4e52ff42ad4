-- What a note of the code stands for.
use Rattle.blz_links.specs.Notes.{NoteValue}
use Rattle.blz_links.specs.declared.recorded.notes.Note.{Note}

abbrev pub note_view : Note → NoteValue
note_view note = record { kind = note.kind; name = note.name.now; descriptor = note.descriptor.now }
