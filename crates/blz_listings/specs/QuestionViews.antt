-- What a question of the code stands for.
use Rattle.std.specs.Prelude.{map, string_bytes}
use Rattle.blz_error.specs.Texts.{Bytes}
use Rattle.blz_model.specs.Part.{Part}
use Rattle.blz_resolver.specs.Images.{ImageSet}
use Rattle.blz_listings.specs.FindTexts.{find_text}
use Rattle.blz_listings.specs.LineTexts.{lines_text}
use Rattle.blz_listings.specs.Questions as asking
use Rattle.blz_listings.specs.declared.question.Question.{Question}
use Rattle.blz_listings.specs.declared.question.Topic.{Topic}
use Rattle.blz_listings.specs.declared.question.Topic.TheVariants.{Lines, Addresses}

-- the text that is asked of a bundle
abbrev pub topic_text : Topic → ImageSet → Part Bytes
topic_text (Lines wanted) images = lines_text wanted images
topic_text (Addresses sought) images = find_text sought.file_offset (map string_bytes sought.names.now) images

abbrev pub question_view : Question → asking.Question
question_view q = record { path = q.path.now; text_for = topic_text q.topic }
